-- What a `Reader` owns, for every walk over one.
--
-- A reader is a shared slice and a number, so it is Copy: what it owns is had twice, and one copy is kept
-- whole for the exit (`held_twice`). The other is spent in one of these ways, each a law here:
--     held-file    what the slice owns is taken out of it
--     held-apart   it is taken apart into what a function on the slice and the number asks
--     held_at      it is the reader of the same file at another place
-- and what a slice owns gives a reader of it at a place (`held_made`).
-- What a number owns is nothing but its bound, and is made where it is needed.
use mathlib.Core.Path.{◌≡◌, refl}
use Prim.Native.Nat.{ℕ, ◌<◌, ◌^◌}
use mathlib.Core.List.{List, [], ◌∷◌}
use lib.ListN.{length}
use seplogic.Ra.Ura.{Ura}
use mir.Syntax.{named, w8, w64}
use mir.Val.{Val, vint}
use base.Logic.{ent, sep}
use base.Fml.{Lft, Fml}
use types.Logic.{Logic, sem}
use contract.Lifetimes.{Lfts}
use types.Kit.{‵, ◌⊛◌, given, ◌$◌, ◌∵◌, !, qed, by, move, drop, use1, split, learn, fjoin, frame, done}
use denote.RattleType.{RattleType, owns}
use denote.Laws.{Is}
use denote.Plain.{uint_Makes, uint_row_laws}
use denote.Builtin.{u8, usize}
use denote.Ref.{Bor}
use denote.Signature.{named_lft}
use denote.Slice.{slice_val, ShrSlice, shr_slice_copy}
use denote.Steps.{nothing, owned}
use denote.Struct.Declared.{Declared}
use denote.Struct.Laws as LL
use denote.Struct.Rest.{all_own, rest, own_open, own_out, own_put, own_shut}
use Rattle.reader.specs.declared.Reader.{Reader}
use Rattle.reader.specs.contracts.Reader as T
use Rattle.reader.proofs.Reader.TheLaws as T'

-- the struct's type, its description and its laws, over the lifetimes of a signature that has one
abbrev pub row : Lfts 1 → RattleType
row κs = T.the_row (named_lft 1 0 tt κs)

abbrev pub type : Lfts 1 → Declared
type κs = T.the_type (named_lft 1 0 tt κs)

abbrev pub laws : (κs : Lfts 1) → LL.Laws (type κs)
laws κs = T'.the_laws (named_lft 1 0 tt κs)

-- the machine value of a slice, and those of a reader's two fields
abbrev pub slice_of : Bor (List ℕ) → Val
slice_of s = slice_val s.ref_ptr (length s.now)

-- what a reader owns, and what its two fields own as parameters
abbrev pub Own : Lft → Reader → Fml
Own κ d = (row (κ, tt)).own_val d (T'.lowered d ∷ [])

abbrev pub OwnSlice : Lft → Bor (List ℕ) → Fml
OwnSlice κ s = (ShrSlice (named 0) κ u8).own_val s (slice_of s ∷ [])

abbrev pub OwnApart : Lft → Reader → Fml
OwnApart κ d = owns (ShrSlice (named 0) κ u8 ∷ usize ∷ []) (d.file, (d.at, tt)) (slice_of d.file ∷ [], (vint w64 d.at ∷ [], tt))

module _ {M : Type 1} {𝓤 : Ura M} (𝓛 : Logic 𝓤) (κ : Lft) where
  pub held_twice : (d : Reader) → ent 𝓤 (sem 𝓛 (Own κ d)) (sep 𝓤 (sem 𝓛 (Own κ d)) (sem 𝓛 (Own κ d)))
  held_twice d = (LL.copy (type (κ, tt)) (T'.the_copy (named_lft 1 0 tt (κ, tt))) 𝓛).twice d (T'.lowered d ∷ [])

  pub held_file : (d : Reader) → ent 𝓤 (sem 𝓛 (Own κ d)) (sep 𝓤 (sem 𝓛 (OwnSlice κ d.file)) (sem 𝓛 (Own κ d)))
  held_file d =
      qed 𝓛 (‵ (Own κ d) ∷ []) ∵ use1 𝓛 (‵ (Own κ d) ⊛ ‵ (Own κ d)) (held_twice d) $ split ! $
      use1 𝓛 (given (T'.lowered d ∷ [] ≡ T'.lowered d ∷ []) (‵ (all_own (type (κ, tt)).parts (laws (κ, tt)) (d.file, (d.at, tt))))) (own_open 𝓛 (type (κ, tt)) (laws (κ, tt)) (d.file, (d.at, tt)) (T'.lowered d)) $ learn ! (λ _.
      use1 𝓛 (‵ (OwnSlice κ d.file) ⊛ ‵ (rest (type (κ, tt)).parts (laws (κ, tt)) 0 (d.file, (d.at, tt)))) (own_out 𝓛 (type (κ, tt)).parts (laws (κ, tt)) 0 (d.file, (d.at, tt))) $ split ! $
      -- [what file owns; what at owns; what the struct owns]
      frame ! $ drop ! $ done !)

  pub held_apart : (d : Reader) → d.at < 2 ^ 64 → ent 𝓤 (sem 𝓛 (Own κ d)) (sep 𝓤 (sem 𝓛 (OwnApart κ d)) (sem 𝓛 (Own κ d)))
  held_apart d fits =
      qed 𝓛 (‵ (Own κ d) ∷ []) ∵ use1 𝓛 (‵ (OwnSlice κ d.file) ⊛ ‵ (Own κ d)) (held_file d) $ split ! $
      -- [what file owns; what the struct owns]
      nothing ! $ owned ! usize (Is usize) (uint_Makes 𝓛 w64) d.at _ (refl, fits) $ fjoin ! $ move ! (1 ∷ 0 ∷ []) $ fjoin ! $ frame ! $ done !

  pub held_at : (d : Reader) (n : ℕ) → n < 2 ^ 64 → ent 𝓤 (sem 𝓛 (Own κ d)) (sem 𝓛 (Own κ (record { file = d.file; at = n })))
  held_at d n fits =
      qed 𝓛 (‵ (Own κ d) ∷ []) ∵ owned ! usize (Is usize) (uint_Makes 𝓛 w64) n _ (refl, fits) $ move ! (1 ∷ 0 ∷ []) $
      by ! (own_put 𝓛 (type (κ, tt)) (laws (κ, tt)) 1 (d.file, (d.at, tt)) n (T'.lowered d))

  pub held_made : (s : Bor (List ℕ)) (n : ℕ) → n < 2 ^ 64 → ent 𝓤 (sem 𝓛 (OwnSlice κ s)) (sem 𝓛 (Own κ (record { file = s; at = n })))
  held_made s n fits =
      qed 𝓛 (‵ (OwnSlice κ s) ∷ []) ∵ nothing ! $ owned ! usize (Is usize) (uint_Makes 𝓛 w64) n _ (refl, fits) $ fjoin ! $ move ! (1 ∷ 0 ∷ []) $ fjoin ! $
      by ! (own_shut 𝓛 (type (κ, tt)) (laws (κ, tt)) (s, (n, tt)))

  pub slice_twice : (s : Bor (List ℕ)) → ent 𝓤 (sem 𝓛 (OwnSlice κ s)) (sep 𝓤 (sem 𝓛 (OwnSlice κ s)) (sem 𝓛 (OwnSlice κ s)))
  slice_twice s = (shr_slice_copy 𝓛 (named 0) κ u8 (uint_row_laws w8)).twice s (slice_of s ∷ [])
