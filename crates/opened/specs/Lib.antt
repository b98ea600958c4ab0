pub mod Opened
pub mod TimesFrom
pub mod Room
