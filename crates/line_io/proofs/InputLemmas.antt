-- Taking bytes from a reader, one chunk after another.
use Rattle.std.proofs.Common.{ℕ, List, [], ◌++◌, refl, sym, ◌∙◌, ap, append_assoc}
use Rattle.std.proofs.Common.{◌≤◌, ◌+◌, length, arith, length-append, length-take, take}
use Rattle.line_io.specs.Input.{TakesAtMost}
use Rattle.std.specs.Prelude.{Option, Some, None}
use Rattle.std.specs.Io.KnownBytes.{Consumes, Keeps}

-- Taking two chunks takes their concatenation.
pub consumes_on : (old mid new : Option (List ℕ)) (xs ys : List ℕ) → Consumes old mid xs → Consumes mid new ys → Consumes old new (xs ++ ys)
consumes_on None mid new xs ys first second = tt
consumes_on (Some a) None new xs ys first second = absurd first
consumes_on (Some a) (Some b) None xs ys first second = absurd second
consumes_on (Some a) (Some b) (Some c) xs ys first second =
    first ∙ ap (λ rest. xs ++ rest) second ∙ sym (append_assoc xs ys c)

-- A read that leaves the reader unchanged takes nothing.
pub consumes_none : (old new : Option (List ℕ)) → Keeps old new → Consumes old new []
consumes_none None new stored = tt
consumes_none (Some a) None stored = absurd stored
consumes_none (Some a) (Some b) stored = sym stored

-- Before the first read, nothing has been taken.
pub consumes_nothing : (old : Option (List ℕ)) → Consumes old old []
consumes_nothing None = tt
consumes_nothing (Some a) = refl

-- A prefix of n elements has at most n.
pub length-take-bound : (n : ℕ) (xs : List ℕ) → length (take n xs) ≤ n
length-take-bound n xs = simp length-take (omega arith)

-- Taking two chunks takes at most `most` bytes, if the second has at most n bytes and the first at most
-- `most` - n.
pub takes_on : (most : ℕ) (old mid new : Option (List ℕ)) (xs ys : List ℕ) (n : ℕ) → Consumes old mid xs → Consumes mid new ys
    → length ys ≤ n → length xs + n ≤ most → TakesAtMost most old new
takes_on most old mid new xs ys n first second short room =
    (xs ++ ys, consumes_on old mid new xs ys first second, simp length-append (omega arith))
