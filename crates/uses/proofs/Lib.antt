pub mod RegistryLemmas
pub mod CalendarLemmas
pub mod ExchangeLemmas
pub mod WordLemmas
pub mod LockerLemmas
pub mod UpdateLemmas
pub mod RemakeLemmas
pub mod IntakeLemmas
