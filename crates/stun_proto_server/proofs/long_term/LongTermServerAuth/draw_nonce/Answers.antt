use Rattle.std.proofs.Common.{◌≡◌, ℕ, List, None, ap, ◌∙◌}
use Rattle.std.specs.FinMap as map
use Rattle.stun_proto_verify.specs.Base.GeneratorWords.{words_of}
use Rattle.stun_proto_verify.specs.Auth.declared.nonce.TheConstants.{NONCE_WORDS}
use Rattle.stun_proto_verify.specs.Auth.Nonce.{nonce_text, features_offered}
use Rattle.stun_proto_server.specs.Server.{Server, room_for}
use Rattle.stun_proto_server.proofs.Apart.{generated_others}
use Rattle.stun_proto_server.proofs.Maps.{room-clients}
use Rattle.stun_proto_server.proofs.long_term.LongTermServerAuth.draw_nonce.Goals as goal

pub returns-clause-ok : goal.returns-clause-ok
returns-clause-ok g c =
    let features = c.offered-features.ensures ∙ ap (λ (s : Server). features_offered s.algorithms s.anonymous_username) c.self.view_is in
    let text : c.in_ok-nonce.nonce ≡ nonce_text (features_offered c.args.self.now.algorithms c.args.self.now.anonymous_username) (words_of NONCE_WORDS (g.R.Rng.stream c.args.rng.now)) =
    c.in_ok-nonce.ensures ∙ (λ i. nonce_text (features i) (c.draw_words-words.ensures.words i)) in
    room-clients c.self.inside c.put_within.new.clients c.args.self.now c.args.from _ c.self.view_is c.in_ok-put_within.ensures.ok
    ∙ ap {A = List ℕ} {B = Server} (λ nonce. record c.args.self.now {
      clients = map.insert (room_for c.args.self.now.max_clients c.args.self.now.clients c.args.from) c.args.from (record { nonce = nonce; generated = c.args.now; outcome = None });
    }) text

pub returns-clause-others : goal.returns-clause-others
returns-clause-others g c other different none =
    generated_others c.args.self.now _ c.args.from other c.args.now (g.R.Rng.stream c.args.rng.now) (returns-clause-ok g c) different none
