-- IP addresses of a list of words.
use Rattle.std.proofs.Common.{arith, Bor, ℕ, ◌≡◌, ◌<◌, ◌≤◌, ◌+◌, List, [], ◌∷◌, ◌++◌, length, get_or, drop, sym, ◌∙◌, ap, subst, append_assoc, drop-cons, add-one, zero, suc}
use Rattle.std.specs.Prelude.{map}
use Rattle.std.proofs.lemmas.List.{append-nil, drop_all}
use Rattle.std.specs.Net.Grammar.{IsIpText}
use Rattle.std.specs.declared.net.ip_addr.IpAddr.{IpAddr}
use Rattle.turn_desk_trace.specs.Address.{AreIps}

abbrev pub texts : List (Bor (List ℕ)) → List (List ℕ)
texts words = map (λ x. x.now) words

-- The words from an index on spell addresses that end the whole list.
abbrev pub End : (words : List (Bor (List ℕ))) (from : ℕ) (before : List IpAddr) → Type 0
End words from before = (rest : List IpAddr) → AreIps (texts (drop from words)) rest → AreIps (texts words) (before ++ rest)

module _ (words : List (Bor (List ℕ))) (before after : List IpAddr) (i : ℕ) (d : Bor (List ℕ)) (ip : IpAddr) where
  pub one_more : i < length words → IsIpText (get_or words i d).now ip → after ≡ before ++ ip ∷ [] → End words i before → End words (i + 1) after
  one_more inside spelled is end = λ rest are.
      let here : AreIps (texts (drop i words)) (ip ∷ rest) = rw (drop-cons words i d inside) (spelled, subst (λ (n : ℕ). AreIps (texts (drop n words)) rest) (add-one i) are) in
      subst (λ (l : List IpAddr). AreIps (texts words) l) (sym (append_assoc before (ip ∷ []) rest) ∙ ap (λ (l : List IpAddr). l ++ rest) (sym is)) (end (ip ∷ rest) here)

-- No word is left.
pub all_read : (words : List (Bor (List ℕ))) (before : List IpAddr) (i : ℕ) → length words ≤ i → End words i before → AreIps (texts words) before
all_read words before i past end =
    subst (λ (l : List IpAddr). AreIps (texts words) l) (append-nil before) (end [] (rw (drop_all i words past) tt))

-- A word that spells no address.
pub one_is_none : (words : List (Bor (List ℕ))) (i : ℕ) (d : Bor (List ℕ)) → i < length words → ((ip : IpAddr) → ¬ (IsIpText (get_or words i d).now ip)) → (ips : List IpAddr) → ¬ (AreIps (texts words) ips)
one_is_none [] i d inside none ips are = let no : ◌≡◌ {A = ℕ} 1 0 = omega arith in absurd (Prim.cc no)
one_is_none (word ∷ words) i d inside none [] are = are
one_is_none (word ∷ words) zero d inside none (ip ∷ ips) are = none ip are.0
one_is_none (word ∷ words) (suc i) d inside none (ip ∷ ips) are = one_is_none words i d (omega arith) none ips are.1
