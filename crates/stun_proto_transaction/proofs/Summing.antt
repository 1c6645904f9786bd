-- The sums of the waits after the first transmissions.
use Rattle.std.proofs.Common.{◌≡◌, ℕ, zero, suc, ◌+◌, ◌*◌, ◌<◌, ◌≤◌, ◌^◌, arith, [], ◌∷◌, ◌++◌, Option, Some, None, refl, sym, ap, ◌∙◌, subst}
use Rattle.std.specs.Prelude.{true, false, map, min, nat_le, ◌-◌}
use Rattle.stun_types_message.specs.Base.Times.{greatest_time}
use Rattle.std.specs.List.{range_with_len, sum}
use Rattle.std.proofs.lemmas.Bool.{leb-false, leb-true}
use Rattle.std.proofs.lemmas.List.{map-append}
use Rattle.std.proofs.lemmas.List.Sums.{sum_by-append}
use Rattle.std.proofs.Math.Nat.{pow-suc}
use Rattle.stun_proto_transaction.specs.Schedule.{Waits, at_most, greatest_wait, is_reached, wait_at, waits_after}

-- A longer range has one more number at its end.
range_more : (a n : ℕ) → range_with_len a (suc n) ≡ range_with_len a n ++ (a + n) ∷ []
range_more a zero = ap (λ k. k ∷ []) (omega arith)
range_more a (suc n) = ap (λ rest. a ∷ rest) (range_more (a + 1) n ∙ ap (λ k. range_with_len (a + 1) n ++ k ∷ []) (omega arith))

-- The sum with one more wait.
pub sum_more : (w : Waits) (n : ℕ) → sum (waits_after w (suc n)) ≡ sum (waits_after w n) + wait_at w n
sum_more w n =
    let indexes : range_with_len 0 (suc n) ≡ range_with_len 0 n ++ n ∷ [] = range_more 0 n ∙ ap (λ k. range_with_len 0 n ++ k ∷ []) (let same : 0 + n ≡ n = omega arith in same) in
    let parts : waits_after w (suc n) ≡ waits_after w n ++ wait_at w n ∷ [] = ap (map (wait_at w)) indexes ∙ map-append (wait_at w) (range_with_len 0 n) (n ∷ []) in
    let both = sum_by-append (λ x. x) (waits_after w n) (wait_at w n ∷ []) in
    let one : sum (wait_at w n ∷ []) ≡ wait_at w n = omega arith in
    ap sum parts ∙ both ∙ ap (λ k. sum (waits_after w n) + k) one

-- The sum of more waits is not smaller.
pub sum_grows : (w : Waits) (n k : ℕ) → sum (waits_after w n) ≤ sum (waits_after w (n + k))
sum_grows w n zero =
    let same : n ≡ n + 0 = omega arith in
    let less : sum (waits_after w n) ≤ sum (waits_after w n) = omega arith in
    subst (λ m. sum (waits_after w n) ≤ sum (waits_after w m)) same less
sum_grows w n (suc k) =
    let same : suc (n + k) ≡ n + suc k = omega arith in
    let more = sum_more w (n + k) in
    let before = sum_grows w n k in
    let less : sum (waits_after w n) ≤ sum (waits_after w (suc (n + k))) = omega (arith, more, before) in
    subst (λ m. sum (waits_after w n) ≤ sum (waits_after w m)) same less

-- Once a wait reaches the maximum, all later waits are the maximum.
pub sum_capped : (w : Waits) (most n k : ℕ) → w.most ≡ Some most → most ≤ w.initial * 2 ^ n → sum (waits_after w (n + k)) ≡ sum (waits_after w n) + k * most
sum_capped w most n zero is reached =
    let same : n + 0 ≡ n = omega arith in
    let nothing : sum (waits_after w n) ≡ sum (waits_after w n) + 0 * most = omega arith in
    ap (λ m. sum (waits_after w m)) same ∙ nothing
sum_capped w most n (suc k) is reached =
    let same : n + suc k ≡ suc n + k = omega arith in
    let twice : w.initial * 2 ^ suc n ≡ w.initial * 2 ^ n + w.initial * 2 ^ n = ap (λ p. w.initial * p) (pow-suc 2 n) ∙ doubled w.initial (2 ^ n) in
    let more = sum_capped w most (suc n) k is (omega (arith, twice, reached)) in
    let here : wait_at w n ≡ most = ap (λ o. at_most o (w.initial * 2 ^ n)) is ∙ least in
    let one = sum_more w n in
    let product : most + k * most ≡ suc k * most = omega arith in
    ap (λ m. sum (waits_after w m)) same ∙ (let all : sum (waits_after w (suc n + k)) ≡ sum (waits_after w n) + suc k * most = omega (arith, more, one, here, product) in all)
  where
    doubled : (a b : ℕ) → a * (b * 2) ≡ a * b + a * b
    doubled a b = omega arith

    least : min (w.initial * 2 ^ n) most ≡ most
    least = omega (arith, reached)

-- ---- one step after another

-- If the initial wait is zero, all waits are zero.
no_wait : (w : Waits) (n : ℕ) → w.initial ≡ 0 → wait_at w n ≡ 0
no_wait w n none = ap (at_most w.most) (ap (λ first. first * 2 ^ n) none ∙ nothing) ∙ by w.most
  where
    nothing : 0 * 2 ^ n ≡ 0
    nothing = omega arith

    by : (most : Option ℕ) → at_most most 0 ≡ 0
    by None = refl
    by (Some most) = omega arith

pub none_waited : (w : Waits) (n : ℕ) → w.initial ≡ 0 → sum (waits_after w n) ≡ 0
none_waited w zero none = refl
none_waited w (suc n) none = let more = sum_more w n in let here = no_wait w n none in let before = none_waited w n none in omega (arith, more, here, before)

-- A wait below the maximum is not shortened.
counted : (most : Option ℕ) (wait : ℕ) → is_reached most wait ≡ false → at_most most wait ≡ wait
counted None wait not_yet = refl
counted (Some most) wait not_yet = let less = leb-false most wait not_yet in (let all : min wait most ≡ wait = omega (arith, less) in all)

-- The loop adds the wait at the next index to the sum.
pub one_more : (w : Waits) (position wait total : ℕ) → wait ≡ w.initial * 2 ^ position → total ≡ sum (waits_after w position) → is_reached w.most wait ≡ false
    → total + wait ≡ sum (waits_after w (position + 1))
one_more w position wait total is before not_yet =
    let more = sum_more w position in
    let here : wait_at w position ≡ wait = ap (at_most w.most) (sym is) ∙ counted w.most wait not_yet in
    let same : suc position ≡ position + 1 = omega arith in
    let all : total + wait ≡ sum (waits_after w (suc position)) = omega (arith, more, here, before) in
    all ∙ ap (λ n. sum (waits_after w n)) same

-- The doubled wait is the wait at the next index.
pub next_wait : (initial position wait : ℕ) → wait ≡ initial * 2 ^ position → wait * 2 ≡ initial * 2 ^ (position + 1)
next_wait initial position wait is =
    let same : suc position ≡ position + 1 = omega arith in
    let product : initial * 2 ^ position * 2 ≡ initial * (2 ^ position * 2) = omega arith in
    ap (λ x. x * 2) is ∙ product ∙ ap (λ p. initial * p) (sym (pow-suc 2 position)) ∙ ap (λ n. initial * 2 ^ n) same

-- If the sum exceeds the greatest possible time, it does so with more waits too.
pub past_all : (w : Waits) (position count total wait : ℕ) → wait ≡ w.initial * 2 ^ position → total ≡ sum (waits_after w position) → is_reached w.most wait ≡ false → position < count
    → greatest_time < total + wait → greatest_time ≡ min (sum (waits_after w count)) greatest_time
past_all w position count total wait is before not_yet below past =
    let here = one_more w position wait total is before not_yet in
    let grows = sum_grows w (position + 1) (count - (position + 1)) in
    let same : position + 1 + (count - (position + 1)) ≡ count = omega (arith, below) in
    let grown : sum (waits_after w (position + 1)) ≤ sum (waits_after w count) = subst (λ n. sum (waits_after w (position + 1)) ≤ sum (waits_after w n)) same grows in
    omega (arith, past, here, grown)

-- If waits remain once the maximum is reached, each of them is the maximum.
others_waited : (w : Waits) (most : Option ℕ) (position count total wait : ℕ) → w.most ≡ most → wait ≡ w.initial * 2 ^ position → total ≡ sum (waits_after w position) → position < count → is_reached most wait ≡ true
    → total + (count - position) * greatest_wait most ≡ sum (waits_after w count)
others_waited w None position count total wait own is before below reached = absurd (Prim.cc reached)
others_waited w (Some most) position count total wait own is before below reached =
    let over : most ≤ w.initial * 2 ^ position = subst (λ x. most ≤ x) is (leb-true most wait reached) in
    let all = sum_capped w most position (count - position) own over in
    let same : position + (count - position) ≡ count = omega (arith, below) in
    ap (λ t. t + (count - position) * most) before ∙ sym all ∙ ap (λ n. sum (waits_after w n)) same

-- All waits: those that the loop added, and the maximum wait for each other one.
pub all_waited : (w : Waits) (position count total wait rest : ℕ) → wait ≡ w.initial * 2 ^ position → total ≡ sum (waits_after w position) → position ≤ count → (position < count → is_reached w.most wait ≡ true)
    → rest ≡ min ((count - position) * greatest_wait w.most) greatest_time → min (total + rest) greatest_time ≡ min (sum (waits_after w count)) greatest_time
all_waited w position count total wait rest is before within reached others =
    elim (nat_le count position) as (λ b. nat_le count position ≡ b → min (total + rest) greatest_time ≡ min (sum (waits_after w count)) greatest_time) [
      | true ↦ λ done.
          let past = leb-true count position done in
          let same : position ≡ count = omega (arith, within, past) in
          let none : count - position ≡ 0 = omega (arith, past) in
          let nothing : (count - position) * greatest_wait w.most ≡ 0 = ap (λ n. n * greatest_wait w.most) none ∙ (let zeros : 0 * greatest_wait w.most ≡ 0 = omega arith in zeros) in
          let here : total ≡ sum (waits_after w count) = before ∙ ap (λ n. sum (waits_after w n)) same in
          (let all : min (total + rest) greatest_time ≡ min (sum (waits_after w count)) greatest_time = omega (arith, others, nothing, here) in all)
      | false ↦ λ more.
          let below = leb-false count position more in
          let whole = others_waited w w.most position count total wait refl is before below (reached below) in
          (let all : min (total + rest) greatest_time ≡ min (sum (waits_after w count)) greatest_time = omega (arith, others, whole) in all)
    ] refl

-- The steps of the loop over the waits.
pub ruleset sums = (none_waited, one_more, next_wait, past_all, all_waited)
