pub mod StatementViews
pub mod DeclarationViews
