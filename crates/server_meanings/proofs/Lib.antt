pub mod EachMeaning
pub mod ForgetLemmas
pub mod Options
pub mod ReadRows
pub mod Rows
pub mod Serve
pub mod Wanted
