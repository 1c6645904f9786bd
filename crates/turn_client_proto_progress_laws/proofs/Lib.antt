pub mod Renewing
pub mod Asking
pub mod TcpBinding
pub mod RequestChallenged
pub mod ScheduleDraws
pub mod SchedulePolls
pub mod ScheduleEnds
