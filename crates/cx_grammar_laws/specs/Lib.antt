pub mod NodeLaws
pub mod RequirementNodes
pub mod PrintedRequires
pub mod Printed
pub mod Language
pub mod Examples
