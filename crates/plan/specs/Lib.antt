pub mod Plans
pub mod Lags
pub mod Theorems
