pub mod Queues
pub mod Meaning
