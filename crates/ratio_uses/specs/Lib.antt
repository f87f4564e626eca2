pub mod Callers
pub mod Accounts
pub mod Shareholders
pub mod Gears
pub mod Beats
pub mod Cents
pub mod Trains
pub mod Units
