-- Reading part after part is reading by the plan. Each reader of specs/Parsing has a law of the same form: to
-- follow its plan is to read with it and to go on with what it answers. The law of a sequence is one for
-- objects, sets and instructions. A stage's law is one step by cases on the answer of the stage before it.
use Prim.Native.Nat.{ℕ, zero, suc, ◌+◌, ◌≤◌}
use mathlib.Core.Path.{◌≡◌, refl, ◌∙◌}
use mathlib.Core.List.{List, [], ◌∷◌, ◌++◌}
use mathlib.Core.Bool.{Bool, true, false}
use lib.ListN.{length}
use lib.Dec.{eqb}
use borrow.Author.Tests.{le-leb}
use Rattle.std.specs.Prelude.{Ok, Err}
use Rattle.numbers.specs.declared.refusal.Cause.{Cause}
use Rattle.numbers.specs.declared.Cursor.{Cursor}
use Rattle.numbers.specs.Number.{Read}
use Rattle.opcodes.specs.declared.Object.{Object}
use Rattle.opcodes.specs.declared.Operand.{Operand}
use Rattle.opcodes.specs.declared.Instr.{Instr}
use Rattle.opcodes.specs.Table.{row_of, operands_of, make}
use Rattle.opcodes.specs.Ranges.{Scope, has_sets, has_opcode, within, is_color, present, allowed, kinds_of}
use Rattle.files.specs.Program.{has_colors, most_code, longest}
use Rattle.files.specs.Reading.{Reading, judged, Plan, done, on, follow, maybe, many, object_plan, members_plan, set_plan, sets_plan, operand_plan, operands_plan, instr_plan, code_plan, file_plan, read_file}
use Rattle.files.specs.Parsing.{Answer, then, several, cursor, color_at, size_at, read_object, objects_of, member_at, members_from, read_set, sets_of, operand_at, operands_at, read_instr, code_of, ends_there, behind, by_parts}

-- the plan of an object, from its second number on
abbrev color_plan : (version kind size : ℕ) → (Object → Plan) → Plan
color_plan version kind size k = maybe (has_colors version) is_color λ color. k (record { kind = kind; size = size; color = color })

abbrev size_plan : (version kind : ℕ) → (Object → Plan) → Plan
size_plan version kind k = maybe (eqb kind 0) (within 1 4096) λ size. color_plan version kind size k

-- what follows the objects
abbrev objects_plan : (version : ℕ) → List Object → Plan
objects_plan version os = sets_plan (has_sets version) (length os) λ ss. code_plan version os ss

abbrev scope_for : (version : ℕ) → List Object → List (List ℕ) → (code : ℕ) → Scope
scope_for version os ss n = record { version = version; kinds = kinds_of os; sets = length ss; code = n }

module _ (file : List ℕ) where
  -- to go on with a plan behind what was read
  abbrev goes_on : {A : Type 0} → (A → Plan) → A → Cursor → Reading
  goes_on k x next = follow (k x) file next.at

  -- ---- one thing

  follow_maybe : (b : Bool) (test : ℕ → Bool) (k : ℕ → Plan) (at : ℕ)
      → follow (maybe b test k) file at ≡ on (elim b [ true ↦ judged Cause.Field test file at | false ↦ Ok (0, cursor at) ]) (λ n behind. follow (k n) file behind)
  unfolding follow
  follow_maybe true test k at = refl
  follow_maybe false test k at = refl

  module _ (version : ℕ) (k : Object → Plan) where
    abbrev colored_at : (kind size : ℕ) → Read → Answer Object
    colored_at kind size r = then r λ color next. Ok (record { kind = kind; size = size; color = color }, next)

    abbrev sized_at : (kind : ℕ) → Read → Answer Object
    sized_at kind r = then r λ size past_size. colored_at kind size (color_at version file past_size.at)

    colored : (kind size : ℕ) (r : Read)
        → on r (λ n behind. follow (k (record { kind = kind; size = size; color = n })) file behind) ≡ behind (colored_at kind size r) (goes_on k)
    colored kind size (Ok r) = refl
    colored kind size (Err q) = refl

    sized : (kind : ℕ) (r : Read) → on r (λ n behind. follow (color_plan version kind n k) file behind) ≡ behind (sized_at kind r) (goes_on k)
    sized kind (Ok r) = follow_maybe (has_colors version) is_color _ r.1.at ∙ colored kind r.0 (color_at version file r.1.at)
    sized kind (Err q) = refl

    kinded : (r : Read)
        → on r (λ n behind. follow (size_plan version n k) file behind)
        ≡ behind (then r λ kind past_kind. sized_at kind (size_at file kind past_kind.at)) (goes_on k)
    kinded (Ok r) = follow_maybe (eqb r.0 0) (within 1 4096) _ r.1.at ∙ sized r.0 (size_at file r.0 r.1.at)
    kinded (Err q) = refl

    follow_object : (at : ℕ) → follow (object_plan version k) file at ≡ behind (read_object version file at) (goes_on k)
    unfolding follow
    follow_object at = kinded (judged Cause.Field (within 0 1) file at)

  module _ (scope : Scope) (k : Instr → Plan) where
    follow_operand : (kind : Operand) (next : ℕ → Plan) (at : ℕ)
        → follow (operand_plan scope kind next) file at ≡ on (operand_at scope kind file at) (λ n behind. follow (next n) file behind)
    follow_operand kind next at = follow_maybe (present scope.version kind) (allowed scope kind) next at

    follow_operands : (kinds : List Operand) (from : Cursor) (j : List ℕ → Instr)
        → follow (operands_plan scope kinds (λ ns. k (j ns))) file from.at ≡ behind (operands_at scope kinds file from j) (goes_on k)
    follow_operands [] from j = refl
    follow_operands (kind ∷ kinds) from j =
        follow_operand kind _ from.at
        ∙ go (operand_at scope kind file from.at) (λ n next. follow_operands kinds next (λ ns. j (n ∷ ns)))
      where
        go : (r : Read)
            → ((n : ℕ) (next : Cursor) → follow (operands_plan scope kinds (λ ns. k (j (n ∷ ns)))) file next.at ≡ behind (operands_at scope kinds file next (λ ns. j (n ∷ ns))) (goes_on k))
            → on r (λ n behind. follow (operands_plan scope kinds (λ ns. k (j (n ∷ ns)))) file behind)
            ≡ behind (then r (λ n next. operands_at scope kinds file next (λ ns. j (n ∷ ns)))) (goes_on k)
        go (Ok r) more = more r.0 r.1
        go (Err q) more = refl

    opcode : (r : Read)
        → on r (λ op behind. follow (operands_plan scope (operands_of (row_of op)) (λ ns. k (make op ns))) file behind)
        ≡ behind (then r (λ op next. operands_at scope (operands_of (row_of op)) file next (make op))) (goes_on k)
    opcode (Ok r) = follow_operands (operands_of (row_of r.0)) r.1 (make r.0)
    opcode (Err q) = refl

    follow_instr : (at : ℕ) → follow (instr_plan scope k) file at ≡ behind (read_instr scope file at) (goes_on k)
    unfolding follow
    follow_instr at = opcode (judged Cause.Field (has_opcode scope.version) file at)

  module _ (objects : ℕ) (k : List ℕ → Plan) where
    follow_members : (left low : ℕ) (ns : List ℕ) (at : ℕ)
        → follow (members_plan left objects low ns k) file at ≡ behind (members_from left objects file at low ns) (goes_on k)
    unfolding follow members_plan members_from
    follow_members zero low ns at = refl
    follow_members (suc left) low ns at =
        go (member_at objects low file at) (λ n behind. follow_members left (n + 1) (ns ++ n ∷ []) behind)
      where
        go : (r : Read)
            → ((n past : ℕ) → follow (members_plan left objects (n + 1) (ns ++ n ∷ []) k) file past ≡ behind (members_from left objects file past (n + 1) (ns ++ n ∷ [])) (goes_on k))
            → on r (λ n past. follow (members_plan left objects (n + 1) (ns ++ n ∷ []) k) file past)
            ≡ behind (then r (λ n next. members_from left objects file next.at (n + 1) (ns ++ n ∷ []))) (goes_on k)
        go (Ok r) more = more r.0 r.1.at
        go (Err q) more = refl

    counted : (r : Read)
        → on r (λ n past. follow (members_plan n objects 0 [] k) file past)
        ≡ behind (then r (λ n next. members_from n objects file next.at 0 [])) (goes_on k)
    counted (Ok r) = follow_members r.0 0 [] r.1.at
    counted (Err q) = refl

    follow_set : (at : ℕ) → follow (set_plan objects k) file at ≡ behind (read_set objects file at) (goes_on k)
    unfolding follow
    follow_set at = counted (judged Cause.Count (within 1 objects) file at)

  -- ---- one after the other

  module _ {X : Type 0} (one : (X → Plan) → Plan) (read : ℕ → Answer X)
      (reads : (k : X → Plan) (at : ℕ) → follow (one k) file at ≡ behind (read at) (goes_on k)) (k : List X → Plan)
    where
      follow_many : (left : ℕ) (xs : List X) (at : ℕ) → follow (many left one xs k) file at ≡ behind (several left read at xs) (goes_on k)
      unfolding many several
      follow_many zero xs at = refl
      follow_many (suc left) xs at =
          reads (λ x. many left one (xs ++ x ∷ []) k) at
          ∙ (λ i. behind (read at) (λ x next. follow_many left (xs ++ x ∷ []) next.at i))
          ∙ go (read at)
        where
          go : (r : Answer X)
              → behind r (λ x next. behind (several left read next.at (xs ++ x ∷ [])) (goes_on k))
              ≡ behind (then r (λ x next. several left read next.at (xs ++ x ∷ []))) (goes_on k)
          go (Ok r) = refl
          go (Err q) = refl

      -- and their count before them
      follow_counted : (r : Read)
          → on r (λ n past. follow (many n one [] k) file past) ≡ behind (then r (λ n next. several n read next.at [])) (goes_on k)
      follow_counted (Ok r) = follow_many r.0 [] r.1.at
      follow_counted (Err q) = refl

  -- ---- the whole file

  module _ (version : ℕ) where
    follow_code : (os : List Object) (ss : List (List ℕ)) (at : ℕ)
        → follow (code_plan version os ss) file at
        ≡ behind (code_of version (kinds_of os) (length ss) file at) (λ code next. ends_there file (record { objects = os; sets = ss; code = code }) next)
    unfolding follow
    follow_code os ss at = go (judged Cause.Count (within 1 (most_code version)) file at)
      where
        ends : List Instr → Plan
        ends code = done (record { objects = os; sets = ss; code = code })

        go : (r : Read)
            → on r (λ n past. follow (many n (instr_plan (scope_for version os ss n)) [] ends) file past)
            ≡ behind (then r (λ n next. several n (read_instr (scope_for version os ss n) file) next.at [])) (λ code next. ends_there file (record { objects = os; sets = ss; code = code }) next)
        go (Ok r) =
            let scope : Scope = scope_for version os ss r.0 in
            follow_many (instr_plan scope) (read_instr scope file) (follow_instr scope) ends r.0 [] r.1.at
        go (Err q) = refl

    follow_sets : (os : List Object) (at : ℕ)
        → follow (objects_plan version os) file at
        ≡ behind (sets_of version (length os) file at) (λ ss next. follow (code_plan version os ss) file next.at)
    unfolding follow
    follow_sets os at = go (has_sets version)
      where
        go : (b : Bool)
            → follow (sets_plan b (length os) (code_plan version os)) file at
            ≡ behind (elim b [ true ↦ then (judged Cause.Count (within 0 400) file at) (λ n next. several n (read_set (length os) file) next.at []) | false ↦ Ok ([], cursor at) ])
            (λ ss next. follow (code_plan version os ss) file next.at)
        go true = follow_counted (set_plan (length os)) (read_set (length os) file) (follow_set (length os)) (code_plan version os) (judged Cause.Count (within 0 400) file at)
        go false = refl

    follow_objects : (r : Read)
        → on r (λ n past. follow (file_plan version) file past)
        ≡ behind (then r (λ this past_version. then (judged Cause.Count (within 0 400) file past_version.at) (λ n next. several n (read_object version file) next.at []))) (goes_on (objects_plan version))
    unfolding follow
    follow_objects (Ok r) = follow_counted (object_plan version) (read_object version file) (follow_object version) (objects_plan version) (judged Cause.Count (within 0 400) file r.1.at)
    follow_objects (Err q) = refl

    -- a file that is not too long is read by its version, and then by the plan
    pub read_by_plan : length file ≤ longest version
        → read_file version file ≡ on (judged Cause.Version (within version version) file 0) (λ n behind. follow (file_plan version) file behind)
    unfolding read_file
    read_by_plan fits = rw (le-leb (length file) (longest version) fits, read_file)

    -- which is part after part
    pub read_by_parts : length file ≤ longest version → read_file version file ≡ by_parts version file
    read_by_parts fits =
        read_by_plan fits ∙ follow_objects (judged Cause.Version (within version version) file 0)
        ∙ (λ i. behind (objects_of version file) (λ os past_objects. follow_sets os past_objects.at i))
        ∙ (λ i. behind (objects_of version file) (λ os past_objects. behind (sets_of version (length os) file past_objects.at) (λ ss past_sets. follow_code os ss past_sets.at i)))
