pub mod Places
pub mod Written
pub mod Behind
pub mod Loans
