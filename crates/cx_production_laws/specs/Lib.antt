pub mod NumberedNodes
