-- What each turn of a loop does to the labels: the laws that the functions' proofs cite.
use Rattle.std.specs.Prelude.{ℕ, ◌+◌, ◌<◌, ◌≤◌, ◌≡◌, Bool, true, false, List, ◌++◌, map, length, get_or, take, drop, set, slice_range}
use Rattle.std.proofs.Common.{◌∙◌, ap, arith, add-one}
use Rattle.std.proofs.Math.ListN.{drop_of_length-le}
use Rattle.std.proofs.Math.Seq.{drop-cons}
use Rattle.std.proofs.lemmas.List.{get_or_default, length-append, length-take, length-drop, length-map}
use Rattle.std.proofs.lemmas.List.Edits.{map_over_more}
use Rattle.coloring.specs.Labels.{renamed, set_joined, joined_if, sets_joined, cut}

-- one label more is renamed
pub relabel_turn : (from to : ℕ) (xs ys : List ℕ) (i label : ℕ) → i < length xs
    → ys ≡ map (renamed from to) (take i xs) ++ drop i xs → label ≡ renamed from to (get_or ys i 0)
    → set ys i label ≡ map (renamed from to) (take (i + 1) xs) ++ drop (i + 1) xs
relabel_turn from to xs ys i label h e l =
    let n : length ys ≡ length xs = rw e (simp (length-append, length-map, length-take, length-drop) (omega arith)) in
    ap (set ys i) l ∙ map_over_more (renamed from to) xs ys i (get_or ys i 0) h e (get_or_default ys i 0 (get_or ys i 0) (omega arith))

-- one set more is joined, if it is in use
module _ (used : List Bool) (s from : ℕ) (labels ends members : List ℕ) where
  left : List ℕ → List ℕ
  left next = sets_joined used (s + 1) next (cut (get_or ends s 0) (drop (s + 1) ends) members)

  abbrev one : List ℕ
  one = slice_range members from (get_or ends s 0)

  turn : s < length ends → sets_joined used s labels (cut from (drop s ends) members) ≡ left (joined_if (get_or used s false) labels one)
  unfolding left sets_joined cut
  turn h = rw (drop-cons ends s 0 h, add-one, cut, sets_joined)

  pub used_turn : s < length ends → get_or used s false ≡ true
      → sets_joined used s labels (cut from (drop s ends) members)
      ≡ sets_joined used (s + 1) (set_joined labels one) (cut (get_or ends s 0) (drop (s + 1) ends) members)
  unfolding left
  used_turn h u = turn h ∙ ap (λ (b : Bool). left (joined_if b labels one)) u

  pub unused_turn : s < length ends → get_or used s false ≡ false
      → sets_joined used s labels (cut from (drop s ends) members)
      ≡ sets_joined used (s + 1) labels (cut (get_or ends s 0) (drop (s + 1) ends) members)
  unfolding left
  unused_turn h u = turn h ∙ ap (λ (b : Bool). left (joined_if b labels one)) u

  pub sets_end : length ends ≤ s → sets_joined used s labels (cut from (drop s ends) members) ≡ labels
  unfolding sets_joined cut
  sets_end h = rw (drop_of_length-le ends h, cut, sets_joined)
