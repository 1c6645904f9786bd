-- Re-exports the results of polling an agent.
pub use Rattle.stun_proto_agent.specs.declared.agent.StunAgentPollRet.{StunAgentPollRet}
pub use Rattle.stun_proto_agent.specs.declared.agent.StunAgentPollRet.TheVariants.{TransactionTimedOut, TransactionCancelled, WaitUntil}
