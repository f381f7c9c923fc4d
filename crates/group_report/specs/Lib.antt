pub mod GroupLines
pub mod JsonData
pub mod JsonText
pub mod LinkTables
pub mod Reports
