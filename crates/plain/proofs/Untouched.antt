-- A store of instrumented code changes no byte that no live object owns: no header, no guard, no free
-- body. A store with a check stands behind it, and the check has found each of its bytes in a class's
-- color, which is never the color of a byte that nobody owns; a store with no check is a safe PUT, whose
-- bytes are its global's.
use Prim.Native.Nat.{ℕ, ◌+◌, ◌<◌, ◌≤◌}
use native.Mathlib.Omega.{arith}
use mathlib.Core.Path.{◌≡◌, refl, sym, ◌∙◌, ap, subst}
use mathlib.Core.List.{List, [], ◌∷◌, ◌++◌}
use mathlib.Core.Bool.{Bool, true, false, false≢true}
use lib.ListN.{length, get_or}
use lib.Dec.{ltb}
use borrow.Author.Tests.{ltb-true, ltb-false, leb-true}
use Rattle.opcodes.specs.declared.Instr.{Instr}
use Rattle.files.specs.Program.{Program}
use Rattle.opcodes.specs.View.{Aim, in_global, at_temp, View, act, jump, jump_if, store, check, view, extent}
use Rattle.safety.specs.Unsafe.{safe_aim, set_of, unsafe_in, unsafe_sets, size_of}
use Rattle.safety.proofs.Stores.{unsafe_store, safe_none, unsafe_one}
use Rattle.coloring.specs.Class.{unsafe_object}
use Rattle.layout.specs.Layout.{start_of, fits}
use Rattle.instructions.proofs.Moving.{moved_view, view_moved}
use Rattle.instrumenter.proofs.Guarded.{view_check}
use Rattle.memory.specs.Memory.{memory_size, color_at, put, bytes_of}
use Rattle.memory.proofs.Memory.{put_outside, length-bytes_of}
use Rattle.machine.specs.State.{Given, State, temp, address_of, width_of}
use Rattle.machine.specs.Step.{next, step}
use Rattle.machine.specs.Colors.{table_rule}
use Rattle.machine.proofs.Steps.{goes_in_code, store_writes}
use Rattle.machine.proofs.Effects.{image}
use Rattle.plain.specs.Live.{Live, owns, some_live}
use Rattle.plain.specs.Plain.{globals}
use Rattle.plain.specs.Guards.{Guards}
use Rattle.plain.specs.Demands.{UnownedKept, HeadersKept}
use Rattle.plain.proofs.Good.{Fine, Good, good}
use Rattle.plain.proofs.Owners.{Each, each_left, each_map, owns_inside}
use Rattle.plain.proofs.Globals.{global_of, globals_whole}
use Rattle.plain.proofs.Holding.{Holds, tells_all}
use Rattle.plain.proofs.Rules.{rule₂, start_same}
use Rattle.plain.proofs.Standing.{alone, checked}
use Rattle.plain.proofs.Lockstep.{placed, Colored}
use Rattle.plain.proofs.Through.{Through, through}
use Rattle.routines.specs.Accepted.{plain_pieces}

-- no live object of a list owns a byte
abbrev Unowned : List Live → (a : ℕ) → Type 0
Unowned os a = Each (λ o. owns o a ≡ false) os

unowned : (os : List Live) (a : ℕ) → some_live (λ o. owns o a) os ≡ false → Unowned os a
unfolding some_live
unowned [] a e = tt
unowned (o ∷ os) a e = go (unowned os a) (owns o a) refl e
  where
    go : (some_live (λ o. owns o a) os ≡ false → Unowned os a)
        → (b : Bool) → owns o a ≡ b → elim b as (λ _. Bool) [ true ↦ true | false ↦ some_live (λ o. owns o a) os ] ≡ false → Unowned (o ∷ os) a
    go rest true s e = absurd (false≢true (sym e))
    go rest false s e = (s, rest e)

module _ (p q : Program) (guards : Guards p q) (given : Given) (good : Good p) (fitting : fits (plain_pieces p) ≡ true) where
  abbrev color : ℕ → ℕ
  color = guards.color

  abbrev place : ℕ → ℕ
  place = guards.place

  -- what a store from a state leaves alone
  abbrev Leaves : State (List ℕ × List Live) → Type 0
  Leaves r =
      (after : State (List ℕ × List Live)) (aim : Aim) (b s : ℕ) → view (get_or q.code r.at Instr.End) ≡ store aim b s
      → step (rule₂ q) given r ≡ next after → (a : ℕ) → Unowned (globals p ++ r.own.1) a → get_or after.memory a 0 ≡ get_or r.memory a 0

  module _ (s : State (List Live)) (own : List ℕ × List Live) (h : Holds p color s.own own s.memory) where
    abbrev start : Aim → ℕ
    start aim = address_of (start_of (plain_pieces p)) s.temps aim

    -- a store whose bytes all have an owner
    writes_owned : (at₂ : ℕ) (after : State (List ℕ × List Live)) (aim : Aim) (b t : ℕ) → view (get_or q.code at₂ Instr.End) ≡ store aim b t
        → step (rule₂ q) given (image s at₂ own) ≡ next after → (a : ℕ) → (start aim ≤ a → a < start aim + width_of aim → ⊥)
        → get_or after.memory a 0 ≡ get_or s.memory a 0
    writes_owned at₂ after aim b t is e a out =
        ap (λ m. get_or m a 0)
        (store_writes (rule₂ q) given (image s at₂ own) aim b t after is e
        ∙ ap (λ f. put s.memory (address_of f s.temps aim) (bytes_of (width_of aim) (temp s.temps b))) (start_same p q guards))
        ∙ put_outside s.memory (start aim) (bytes_of (width_of aim) (temp s.temps b)) a
        (λ x y. out x (omega (arith, length-bytes_of (width_of aim) (temp s.temps b))))

    unowned_color : (a : ℕ) → a < memory_size → Unowned (globals p ++ own.1) a → color_at own.0 a ≤ 1
    unowned_color a inside none =
        (tells_all p color (globals_whole p fitting) s.own own s.memory h a inside).clear (subst (λ l. Unowned (globals p ++ l) a) h.recorded none)

    -- behind its check
    leaves_behind : (aim : Aim) (b : ℕ) → view (get_or q.code (place s.at + 1) Instr.End) ≡ store aim b 0
        → Colored p q guards given s own.0 aim → Leaves (image s (place s.at + 1) own)
    leaves_behind aim b is bytes after aim' b' t is' e a none =
        let same : aim ≡ aim' = cc in
        writes_owned (place s.at + 1) after aim' b' t is' e a
        (λ x y.
        let c : (a < memory_size) × (2 ≤ color_at own.0 a) = subst (Colored p q guards given s own.0) same bytes a x y in
        omega (arith, c.1, unowned_color a c.0 none))

    -- a safe PUT, whose bytes are its global's
    safe_owned : (aim : Aim) (b t : ℕ) → Fine p (store aim b t) → safe_aim p aim ≡ true → (a : ℕ) → Unowned (globals p) a
        → start aim ≤ a → a < start aim + width_of aim → ⊥
    safe_owned (in_global g k w) b t f safe a none x y =
        let out : owns (record { object = g; start = start_of (plain_pieces p) g; size = extent (size_of p.objects g) }) a ≡ false =
        global_of (λ o. owns o a ≡ false) p g none f.0 f.1 in
        let fits : k + width_of (in_global g k w) ≤ extent (size_of p.objects g) = leb-true _ _ safe in
        false≢true (sym out ∙ owns_inside (record { object = g; start = start_of (plain_pieces p) g; size = extent (size_of p.objects g) }) a (omega arith) (omega arith))
    safe_owned (at_temp c w) b t f safe a none x y = false≢true safe

    -- what stands at the new place of an instruction
    new_alone : (in_code : s.at < length p.code) (v : View) → view (get_or p.code s.at Instr.End) ≡ v → unsafe_in p v ≡ []
        → view (get_or q.code (place s.at) Instr.End) ≡ moved_view guards.target v
    new_alone in_code v i none =
        ap view (alone p q guards s.at in_code (ap (unsafe_in p) i ∙ none)).here
        ∙ view_moved guards.target (get_or p.code s.at Instr.End) ∙ ap (moved_view guards.target) i

    pub new_check : (in_code : s.at < length p.code) (aim : Aim) (b t : ℕ) → view (get_or p.code s.at Instr.End) ≡ store aim b t → safe_aim p aim ≡ false
        → view (get_or q.code (place s.at) Instr.End) ≡ check aim (color (get_or (set_of p aim t) 0 0))
    new_check in_code aim b t i unsafe =
        ap view (checked p q guards s.at in_code (unsafe_store p aim t) (ap (unsafe_in p) i ∙ unsafe_one p aim b t unsafe)).here
        ∙ view_check aim (color (get_or (set_of p aim t) 0 0))

    leaves_tied : Leaves (placed p q guards given s own)
    leaves_tied after aim b t is e a none = code (ltb s.at (length p.code)) refl
      where
        stored : (in_code : s.at < length p.code) (x : Aim) (y z : ℕ) → view (get_or p.code s.at Instr.End) ≡ store x y z → Fine p (store x y z)
            → (c : Bool) → safe_aim p x ≡ c → get_or after.memory a 0 ≡ get_or s.memory a 0
        stored in_code x y z i f true safe =
            let none₁ : unsafe_in p (store x y z) ≡ [] = safe_none p x y z safe in
            let at : _ ≡ store x y 0 = new_alone in_code (store x y z) i none₁ in
            let same : x ≡ aim = cc in
            writes_owned (place s.at) after aim b t is e a
            (subst (λ q. start q ≤ a → a < start q + width_of q → ⊥) same (safe_owned x y z f safe a (each_left (λ o. owns o a ≡ false) (globals p) own.1 none)))
        stored in_code x y z i f false unsafe =
            let at : _ ≡ check x (color (get_or (set_of p x z) 0 0)) = new_check in_code x y z i unsafe in
            let q : ◌≡◌ {A = ℕ} 0 1 = cc in
            absurd (omega arith)

        by : (in_code : s.at < length p.code) (v : View) → view (get_or p.code s.at Instr.End) ≡ v → Fine p v → get_or after.memory a 0 ≡ get_or s.memory a 0
        by in_code (act x) i f = let at : _ ≡ act x = new_alone in_code (act x) i refl in let z : ◌≡◌ {A = ℕ} 0 1 = cc in absurd (omega arith)
        by in_code (jump x) i f = let at : _ ≡ jump (guards.target x) = new_alone in_code (jump x) i refl in let z : ◌≡◌ {A = ℕ} 0 1 = cc in absurd (omega arith)
        by in_code (jump_if x y) i f = let at : _ ≡ jump_if x (guards.target y) = new_alone in_code (jump_if x y) i refl in let z : ◌≡◌ {A = ℕ} 0 1 = cc in absurd (omega arith)
        by in_code (store x y z) i f = stored in_code x y z i f (safe_aim p x) refl
        by in_code (check x c) i f = absurd f

        code : (c : Bool) → ltb s.at (length p.code) ≡ c → get_or after.memory a 0 ≡ get_or s.memory a 0
        code true c = by (ltb-true _ _ c) (view (get_or p.code s.at Instr.End)) refl (good.fines s.at (ltb-true _ _ c))
        code false c =
            absurd (omega (arith, guards.last s.at (ltb-false _ _ c), goes_in_code (rule₂ q) given (placed p q guards given s own) after e))

  leaves : (r : State (List ℕ × List Live)) → Through p q guards given good fitting r → Leaves r
  leaves r (Through.tied s own is h) = subst Leaves is (leaves_tied s own h)
  leaves r (Through.behind s own aim b v bytes is h g) = subst Leaves is (leaves_behind s own h aim b v bytes)

  -- ---- headers are nobody's

  color_not_one : (x : ℕ) → color x ≡ 1 → ⊥
  color_not_one x one = go (unsafe_object (unsafe_sets p) x) refl
    where
      go : (b : Bool) → unsafe_object (unsafe_sets p) x ≡ b → ⊥
      go true u = omega (arith, guards.exact.low x u)
      go false u = omega (arith, guards.exact.safe x u)

  holds_unowned : (live : List Live) (own : List ℕ × List Live) (m : List ℕ) → Holds p color live own m
      → (a : ℕ) → a < memory_size → color_at own.0 a ≡ 1 → Unowned (globals p ++ own.1) a
  holds_unowned live own m h a inside one =
      subst (λ l. Unowned (globals p ++ l) a) (sym h.recorded)
      (each_map (λ o. owns o a ≡ true → color_at own.0 a ≡ color o.object) (λ o. owns o a ≡ false) nobody (globals p ++ live)
      (tells_all p color (globals_whole p fitting) live own m h a inside).owned)
    where
      nobody : (o : Live) → (owns o a ≡ true → color_at own.0 a ≡ color o.object) → owns o a ≡ false
      nobody o f = go (owns o a) refl
        where
          go : (b : Bool) → owns o a ≡ b → owns o a ≡ false
          go true u = absurd (color_not_one o.object (sym (f u) ∙ one))
          go false u = u

  through_unowned : (r : State (List ℕ × List Live)) → Through p q guards given good fitting r → (a : ℕ) → a < memory_size
      → color_at r.own.0 a ≡ 1 → Unowned (globals p ++ r.own.1) a
  through_unowned r (Through.tied s own is h) =
      subst (λ r. (a : ℕ) → a < memory_size → color_at r.own.0 a ≡ 1 → Unowned (globals p ++ r.own.1) a) is (holds_unowned s.own own s.memory h)
  through_unowned r (Through.behind s own aim b v bytes is h g) =
      subst (λ r. (a : ℕ) → a < memory_size → color_at r.own.0 a ≡ 1 → Unowned (globals p ++ r.own.1) a) is (holds_unowned s.own own s.memory h)

-- ---- the same of any program that guards an accepted one

pub unowned_kept : UnownedKept
unfolding table_rule
unowned_kept p q given accepted guards r way a none after aim b s is e =
    let good : Good p = good p accepted.good in
    leaves p q guards given good accepted.fitting r (through p q guards given good accepted.fitting way) after aim b s is e a
    (unowned (globals p ++ r.own.1) a none)

pub headers_kept : HeadersKept
unfolding table_rule
headers_kept p q given accepted guards r way a inside one after aim b s is e =
    let good : Good p = good p accepted.good in
    let along : Through p q guards given good accepted.fitting r = through p q guards given good accepted.fitting way in
    leaves p q guards given good accepted.fitting r along after aim b s is e a
    (through_unowned p q guards given good accepted.fitting r along a inside one)
