-- The front of a buffer after a read into its rest: what stood there, and behind it what was read.
use Prim.Native.Nat.{ℕ, ◌+◌, ◌≤◌}
use mathlib.Core.Path.{◌≡◌, ap, ap₂, ◌∙◌}
use mathlib.Core.List.{List, ◌++◌}
use native.Mathlib.Omega.{arith}
use lib.ListN.{length, take}
use lib.Seq.{take-add, drop_at, length-take-le, take-append-le}
use borrow.Rule.Slice.PartMut.{put_mid, post_of}
use Rattle.std.proofs.lemmas.Slice.{take-put_mid_below}

pub front_read : (done room n : ℕ) (buffer read : List ℕ) → done ≤ length buffer → n ≤ length read
    → take (done + n) (put_mid done room buffer read) ≡ take done buffer ++ take n read
front_read done room n buffer read inside fits =
    let behind : List ℕ = post_of done room buffer in
    take-add done n (put_mid done room buffer read)
    ∙ ap₂ (λ (l m : List ℕ). l ++ m)
    (take-put_mid_below done room buffer read done (omega arith) inside)
    (ap (take n) (drop_at (take done buffer) (read ++ behind) done (length-take-le done buffer inside)) ∙ take-append-le n read behind fits)
