use Rattle.std.proofs.Common.{◌≡◌, refl, ap, ◌∙◌}
use Rattle.std.specs.Net.Addr.{ipv6_segments, octets_of}
use Rattle.stun_types_attributes.proofs.Bytes.{sixteen_again}
use Rattle.stun_types_attributes.proofs.octets.v6_address.Goals as goal

pub returns-clause-value : goal.returns-clause-value
returns-clause-value c =
    let octets : octets_of (ipv6_segments c.from_octets.result) ≡ c.args.octets.now = ap octets_of c.from_octets.ensures ∙ sixteen_again c.args.octets.now c.told-octets c.fits-octets in
    rw (c.new.ensures.port, c.new.ensures.ip, octets) refl
