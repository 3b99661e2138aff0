pub mod Calling
pub mod Fitting
pub mod Places
pub mod ReportLines
pub mod WrittenRows
