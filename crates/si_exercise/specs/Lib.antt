pub mod Exercise
