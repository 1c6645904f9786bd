pub mod EarliestPermission
pub mod Distinct
pub mod EarliestChannel
pub mod Granting
pub mod Marks
pub mod Several
pub mod Indexes
pub mod Walks
