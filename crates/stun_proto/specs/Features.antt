-- Re-exports the settings of an optional feature.
pub use Rattle.stun_proto_auth.specs.declared.feature.Feature.{Feature}
pub use Rattle.stun_proto_auth.specs.declared.feature.Feature.TheVariants.{Auto, Required, Disabled}
