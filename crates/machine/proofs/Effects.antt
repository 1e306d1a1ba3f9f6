-- Two rules over states that agree in all but the place and the rules' own states. Where the own states
-- are tied and what ALLOC and FREE do keeps the tie, an instruction that calculates has the same effect
-- under both: both stop for one reason, or both complete with the same temporaries, memory, numbers out
-- and numbers taken, and with own states that are tied again.
use Rattle.std.proofs.Common.{◌≡◌, ℕ, Bool, true, false, eqb, ltb, List, length, set, refl, ap}
use Rattle.opcodes.specs.View.{bytes, Act}
use Rattle.memory.specs.Memory.{inside}
use Rattle.heap.specs.Heap.{Made, Freed, Alloc, Free, alloc, free}
use Rattle.stops.specs.declared.Reason.{Reason}
use Rattle.machine.specs.State.{Rule, Given, State, temp}
use Rattle.machine.specs.Step.{Effect, stops, passes, completes, act_effect, allocating, freeing}

-- the reasons that instrumented code may stop for: all but "35 store outside memory" and "38 unsound heap"
abbrev pub Calm : Reason → Type 0
Calm Reason.Finished = Unit {0}
Calm Reason.PastEnd = Unit {0}
Calm Reason.LimitUsed = Unit {0}
Calm Reason.NoInput = Unit {0}
Calm Reason.NoRoom = Unit {0}
Calm Reason.ReadOutside = Unit {0}
Calm Reason.StoreOutside = ⊥
Calm Reason.Forbidden = Unit {0}
Calm Reason.BadFree = Unit {0}
Calm Reason.Unsound = ⊥
Calm (Reason.Refused q) = ⊥

-- a state under another rule, at another place
abbrev pub image : {S T : Type 0} → State S → (at : ℕ) → T → State T
image s at own =
    record { temps = s.temps; memory = s.memory; outs = s.outs; taken = s.taken; at = at; steps = s.steps; own = own }

-- what an instruction's operands have to be
abbrev pub Proper : (Site : ℕ → Type 0) → Act → Type 0
Proper Site Act.end = Unit {0}
Proper Site (Act.set d n) = Unit {0}
Proper Site (Act.place d g) = Unit {0}
Proper Site (Act.add d a b) = Unit {0}
Proper Site (Act.sub d a b) = Unit {0}
Proper Site (Act.less d a b) = Unit {0}
Proper Site (Act.load d a w) = Unit {0}
Proper Site (Act.alloc d g a) = Site g
Proper Site (Act.free a) = Unit {0}
Proper Site (Act.input d) = Unit {0}
Proper Site (Act.output a) = Unit {0}

-- what is asked of the site of an ALLOC is all
pub proper : (Site : ℕ → Type 0) (x : Act) → ((d g a : ℕ) → x ≡ Act.alloc d g a → Site g) → Proper Site x
proper Site Act.end h = tt
proper Site (Act.set d n) h = tt
proper Site (Act.place d g) h = tt
proper Site (Act.add d a b) h = tt
proper Site (Act.sub d a b) h = tt
proper Site (Act.less d a b) h = tt
proper Site (Act.load d a w) h = tt
proper Site (Act.alloc d g a) h = h d g a refl
proper Site (Act.free a) h = tt
proper Site (Act.input d) h = tt
proper Site (Act.output a) h = tt

module _ {S T : Type 0} (Tie : S → T → List ℕ → Type 0) (May : Reason → Type 0) where
  -- an effect that follows another
  abbrev pub Follows : Effect S → Effect T → Type 0
  Follows (stops x) e = (e ≡ stops x) × May x
  Follows passes e = e ≡ passes
  Follows (completes temps memory outs taken own) e =
      (own' : T) × (e ≡ completes temps memory outs taken own') × Tie own own' memory

  -- what two rules have to do alike
  pub record Alike (rule : Rule S) (rule' : Rule T) (Site : ℕ → Type 0) : Type 0 where
    pub starts : (g : ℕ) → rule'.start g ≡ rule.start g
    pub calm : (x : Reason) → Calm x → May x
    pub made : (own : S) (own' : T) (m : List ℕ) (size g : ℕ) (k : Made) → Tie own own' m → Site g → alloc m size g ≡ Alloc.made k
        → Tie (rule.making own g k) (rule'.making own' g k) k.memory
    pub broken : (own : S) (own' : T) (m : List ℕ) (size g : ℕ) → Tie own own' m → Site g → alloc m size g ≡ Alloc.stopped → May Reason.Unsound
    pub freed : (own : S) (own' : T) (m : List ℕ) (address : ℕ) (f : Freed) → Tie own own' m → free m address ≡ Free.freed f
        → Tie (rule.freeing own address f) (rule'.freeing own' address f) f.memory
    pub broken' : (own : S) (own' : T) (m : List ℕ) (address : ℕ) → Tie own own' m → free m address ≡ Free.stopped → May Reason.Unsound

  -- one test decides for both
  pub follows_if : (b : Bool) (e f : Effect S) (e' f' : Effect T) → Follows e e' → Follows f f'
      → Follows (elim b [ true ↦ e | false ↦ f ]) (elim b [ true ↦ e' | false ↦ f' ])
  follows_if true e f e' f' x y = x
  follows_if false e f e' f' x y = y

  module _ (rule : Rule S) (rule' : Rule T) (Site : ℕ → Type 0) (alike : Alike rule rule' Site) (given : Given)
      (s : State S) (at : ℕ) (own' : T) (tie : Tie s.own own' s.memory) where
    allocating_follows : (d g a : ℕ) → Site g → (answer : Alloc) → alloc s.memory (temp s.temps a) g ≡ answer
        → Follows (allocating rule given s d g answer) (allocating rule' given (image s at own') d g answer)
    allocating_follows d g a site Alloc.stopped e = (refl, alike.broken s.own own' s.memory (temp s.temps a) g tie site e)
    allocating_follows d g a site Alloc.nothing e = (own', refl, tie)
    allocating_follows d g a site (Alloc.made k) e =
        (rule'.making own' g k, refl, alike.made s.own own' s.memory (temp s.temps a) g k tie site e)

    freeing_follows : (address : ℕ) (answer : Free) → free s.memory address ≡ answer
        → Follows (freeing rule given s address answer) (freeing rule' given (image s at own') address answer)
    freeing_follows address Free.stopped e = (refl, alike.broken' s.own own' s.memory address tie e)
    freeing_follows address Free.bad e = (refl, alike.calm Reason.BadFree tt)
    freeing_follows address (Free.freed f) e =
        (rule'.freeing own' address f, refl, alike.freed s.own own' s.memory address f tie e)

    pub act_follows : (x : Act) → Proper Site x → Follows (act_effect rule given s x) (act_effect rule' given (image s at own') x)
    act_follows Act.end good = (refl, alike.calm Reason.Finished tt)
    act_follows (Act.set d n) good = (own', refl, tie)
    act_follows (Act.place d g) good =
        (own', ap (λ v. completes (set s.temps d v) s.memory s.outs s.taken own') (alike.starts g), tie)
    act_follows (Act.add d a b) good = (own', refl, tie)
    act_follows (Act.sub d a b) good = (own', refl, tie)
    act_follows (Act.less d a b) good = (own', refl, tie)
    act_follows (Act.load d a w) good =
        follows_if (inside (temp s.temps a) (bytes w)) _ _ _ _ (own', refl, tie) (refl, alike.calm Reason.ReadOutside tt)
    act_follows (Act.alloc d g a) good = allocating_follows d g a good (alloc s.memory (temp s.temps a) g) refl
    act_follows (Act.free a) good =
        follows_if (eqb (temp s.temps a) 0) _ _ _ _ (own', refl, tie)
        (freeing_follows (temp s.temps a) (free s.memory (temp s.temps a)) refl)
    act_follows (Act.input d) good =
        follows_if (ltb s.taken (length given.input)) _ _ _ _ (own', refl, tie) (refl, alike.calm Reason.NoInput tt)
    act_follows (Act.output a) good =
        follows_if (ltb (length s.outs) given.room) _ _ _ _ (own', refl, tie) (refl, alike.calm Reason.NoRoom tt)
