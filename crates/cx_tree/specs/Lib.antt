pub mod Trees
pub mod Nodes
pub mod Statements
pub mod Declarations
pub mod UnitNodes
