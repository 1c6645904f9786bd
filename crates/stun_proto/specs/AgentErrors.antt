-- Re-exports the errors of an agent's calls.
pub use Rattle.stun_proto_agent.specs.declared.error.StunError.{StunError}
pub use Rattle.stun_proto_agent.specs.declared.error.StunError.TheVariants.{AlreadyInProgress, ResourceNotFound, TimedOut, ProtocolViolation, Aborted, ParseError, WriteError, NoMemory}
