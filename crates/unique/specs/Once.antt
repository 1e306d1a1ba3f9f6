-- 01: "From two answers that satisfy it, equality is proved." A statement for each public function, by
-- crate and name. What it promises is the function's contract: r is what is returned, a lent buffer's
-- name is what it holds before, and the name with a mark what it holds afterwards. One function reads from outside,
-- `read_full` of `input`: no contract can make two of its answers equal, and its statement has a form of its own (Alike).
use Rattle.std.specs.Prelude.{ℕ, ◌≡◌, ◌≤◌, ◌<◌, List, [], ◌∷◌, Bool, Option, IsSome, Result, Ok, IfOk, OnErr, length, get_or, take, replicate}
use Rattle.std.specs.Borrow.{Bor}
use Rattle.std.specs.Io.KnownBytes.{Consumes, IsAtEnd}
use Rattle.std_io.specs.declared.io.error.Error.{Error}
use Rattle.numbers.specs.declared.Cursor.{Cursor}
use Rattle.numbers.specs.declared.refusal.Cause.{Cause}
use Rattle.numbers.specs.declared.refusal.Refusal.{Refusal}
use Rattle.numbers.specs.Refusals.{refusal_number}
use Rattle.numbers.specs.Number.{read_number, width, written_at, room_after}
use Rattle.reader.specs.declared.Reader.{Reader}
use Rattle.opcodes.specs.declared.Instr.{Instr}
use Rattle.opcodes.specs.declared.Group.{Group}
use Rattle.opcodes.specs.declared.Operand.{Operand}
use Rattle.opcodes.specs.declared.Scope.{Scope}
use Rattle.opcodes.specs.Table.{row_of, make, parts_of}
use Rattle.instructions.specs.Making.{made}
use Rattle.opcodes.specs.Ranges.{has_group, has_opcode, within, is_color, present, kinds_of, scope_over, allowed}
use Rattle.opcodes.specs.View.{view, extent}
use Rattle.opcodes.specs.declared.Object.{Object}
use Rattle.files.specs.declared.arrays.Loaded.{Loaded}
use Rattle.files.specs.declared.arrays.Objects.{Objects}
use Rattle.files.specs.declared.WriteError.{WriteError}
use Rattle.files.specs.Reading.{read_file}
use Rattle.files.specs.Held.{held, written_in, room_with}
use Rattle.safety.specs.Unsafe.{size_of}
use Rattle.safety.specs.Nature.{nature_of}
use Rattle.instructions.specs.Moved.{moved}
use Rattle.checks.specs.Held.{as_list, check_in}
use Rattle.coloring.specs.Colored.{colored}
use Rattle.layout.specs.Arrays.{pieces_in, layout_of}
use Rattle.memory.specs.Memory.{exact, has_color, every_byte}
use Rattle.memory.specs.Lent
use Rattle.memory.specs.Lent.{number_within, loaded, stored, painted}
use Rattle.heap.specs.declared.HeapError.{HeapError}
use Rattle.heap.specs.Lent.{allocated, released, started}
use Rattle.instrumenter.specs.Answer.{instrument, told, room_holding}
use Rattle.start.specs.declared.Laid.{Laid}
use Rattle.start.specs.Held.{laid_start}
use Rattle.stops.specs.declared.Reason.{Reason}
use Rattle.stops.specs.declared.Run.{Run}
use Rattle.stops.specs.Stop.{refused_run, five_of, place_in, record_of}
use Rattle.machine.specs.Running.{lent_of, answered, run_file}
use Rattle.controller.specs.Control.{control}

-- two answers that satisfy a promise are equal
abbrev pub Once : {A : Type 0} → (A → Type 0) → Type 0
Once {A} Promise = (a b : A) → Promise a → Promise b → a ≡ b

-- of what is read into a buffer from outside: two readings that satisfy a promise, and succeed, gave as many bytes and the
-- same ones, and left the same; what stands in the buffer behind them is open
abbrev pub Alike : {E : Type 0} → (Result ℕ E × Option (List ℕ) × List ℕ → Type 0) → Type 0
Alike Promise =
    (n m : ℕ) (left left' : Option (List ℕ)) (buffer buffer' : List ℕ) → Promise (Ok n, left, buffer) → Promise (Ok m, left', buffer')
    → (n ≡ m) × (take n buffer ≡ take m buffer') × (left ≡ left')

-- ---- numbers

abbrev pub numbers_number : Type 0
numbers_number = (self : Cause) → Once (λ r. r ≡ refusal_number self)

abbrev pub numbers_read_number : Type 0
numbers_read_number = (file : List ℕ) (from : Cursor) → Once (λ r. r ≡ read_number file from.at)

abbrev pub numbers_number_width : Type 0
numbers_number_width = (n : ℕ) → Once (λ r. r ≡ width n)

abbrev pub numbers_write_number : Type 0
numbers_write_number =
    (room : List ℕ) (at n : ℕ)
    → Once {A = Option ℕ × List ℕ} (λ (r, room'). (r ≡ written_at room at n) × (room' ≡ room_after room at n))

-- ---- reader: a reader holds the reference to a file's bytes, which `now` reads

abbrev pub reader_open : Type 0
reader_open = (file : Bor (List ℕ)) → Once {A = Reader} (λ r. (r.file ≡ file) × (r.at ≡ 0))

abbrev pub reader_after : Type 0
reader_after = (self : Reader) (read : Cursor) → Once {A = Reader} (λ q. (q.file ≡ self.file) × (q.at ≡ read.at))

abbrev pub reader_number : Type 0
reader_number = (self : Reader) → Once (λ r. r ≡ read_number self.file.now self.at)

abbrev pub reader_read_at : Type 0
reader_read_at = (file : List ℕ) (from : Cursor) → Once (λ r. r ≡ read_number file from.at)

-- ---- opcodes

abbrev pub table_row_of : Type 0
table_row_of = (op : ℕ) → Once (λ r. r ≡ row_of op)

abbrev pub table_has_opcode : Type 0
table_has_opcode = (version op : ℕ) → Once (λ r. r ≡ has_opcode version op)

abbrev pub opcodes_has_group : Type 0
opcodes_has_group = (version : ℕ) (group : Group) → Once (λ r. r ≡ has_group version group)

abbrev pub opcodes_is_present : Type 0
opcodes_is_present = (version : ℕ) (kind : Operand) → Once (λ r. r ≡ present version kind)

abbrev pub opcodes_is_within : Type 0
opcodes_is_within = (low high n : ℕ) → Once (λ r. r ≡ within low high n)

abbrev pub opcodes_is_color : Type 0
opcodes_is_color = (n : ℕ) → Once (λ r. r ≡ is_color n)

abbrev pub opcodes_is_allowed : Type 0
opcodes_is_allowed =
    (objects : List Object) (scope : Scope) (kind : Operand) (n : ℕ)
    → Once (λ r. r ≡ allowed (scope_over scope (kinds_of objects)) kind n)

-- ---- instructions

abbrev pub instructions_instr_of : Type 0
instructions_instr_of = (op x y z w : ℕ) → Once (λ r. r ≡ made op (x ∷ y ∷ z ∷ w ∷ []))

abbrev pub instructions_parts_of : Type 0
instructions_parts_of = (i : Instr) → Once (λ r. r ≡ parts_of i)

abbrev pub opcodes_extent_of : Type 0
opcodes_extent_of = (size : ℕ) → Once (λ r. r ≡ extent size)

-- ---- files

abbrev pub files_read_routine : Type 0
files_read_routine = (file : List ℕ) → Once (λ r. r ≡ held (read_file 1 file))

abbrev pub files_read_program : Type 0
files_read_program = (file : List ℕ) → Once (λ r. r ≡ held (read_file 2 file))

-- ---- writer

abbrev pub writer_write_program : Type 0
writer_write_program =
    (p : Loaded) (room : List ℕ)
    → Once {A = Result ℕ WriteError × List ℕ} (λ (r, room'). (r ≡ written_in room p) × (room' ≡ room_with room p))

-- ---- safety

abbrev pub safety_by_opcode : Type 0
safety_by_opcode = (opcode x y z w size : ℕ) → Once (λ r. r ≡ nature_of (λ g. size) (view (make opcode (x ∷ y ∷ z ∷ w ∷ []))))

abbrev pub safety_nature_of : Type 0
safety_nature_of = (i : Instr) (objects : List Object) → Once (λ r. r ≡ nature_of (size_of objects) (view i))

-- ---- checks

abbrev pub checks_copy_of : Type 0
checks_copy_of = (i : Instr) (places : List ℕ) → Once (λ r. r ≡ moved (λ t. get_or places t 0) i)

abbrev pub checks_check_before : Type 0
checks_check_before =
    (i : Instr) (objects : List Object) (ends members : List ℕ) → Once (λ r. as_list r ≡ check_in objects ends members i)

-- ---- coloring

abbrev pub coloring_read_colored : Type 0
coloring_read_colored = (file : List ℕ) → Once (λ r. r ≡ held (colored (read_file 1 file)))

-- ---- layout

abbrev pub layout_lay_out : Type 0
layout_lay_out = (objects : Objects) → Once (λ r. r ≡ layout_of (pieces_in objects))

-- ---- memory: a width is known by how many bytes it covers

abbrev pub memory_bytes : Type 0
memory_bytes = (bytes : ℕ) → Once (λ r. r ≡ bytes)

abbrev pub memory_read : Type 0
memory_read = (bytes : ℕ) (part : List ℕ) → Once (λ r. r ≡ loaded bytes part 0)

abbrev pub memory_write : Type 0
memory_write = (bytes : ℕ) (part : List ℕ) (value : ℕ) → Once (λ part'. part' ≡ stored bytes part 0 value)

abbrev pub memory_fill : Type 0
memory_fill = (part : List ℕ) (value : ℕ) → Once (λ part'. part' ≡ replicate (length part) value)

abbrev pub memory_load : Type 0
memory_load = (bytes : ℕ) (memory : List ℕ) (address : ℕ) → Once (λ r. r ≡ loaded bytes memory address)

abbrev pub memory_number_at : Type 0
memory_number_at = (memory : List ℕ) (address : ℕ) → Once (λ r. r ≡ number_within 4 memory address)

abbrev pub memory_store : Type 0
memory_store =
    (bytes : ℕ) (memory : List ℕ) (address value : ℕ)
    → Once {A = Bool × List ℕ} (λ (r, memory'). (r ≡ Lent.within bytes memory address) × (memory' ≡ stored bytes memory address value))

abbrev pub memory_check : Type 0
memory_check = (bytes : ℕ) (table : List ℕ) (address color : ℕ) → Once (λ r. r ≡ every_byte bytes (has_color table color) address)

abbrev pub memory_paint : Type 0
memory_paint = (table : List ℕ) (address count color : ℕ) → Once (λ table'. table' ≡ painted table address count color)

abbrev pub memory_are_exact : Type 0
memory_are_exact = (memory table : List ℕ) → Once (λ r. r ≡ exact memory table)

-- ---- heap

abbrev pub heap_start : Type 0
heap_start = (memory : List ℕ) → Once (λ memory'. memory' ≡ started memory)

abbrev pub heap_alloc : Type 0
heap_alloc =
    (memory table : List ℕ) (size site color : ℕ)
    → Once {A = Result (Option ℕ) HeapError × List ℕ × List ℕ}
    (λ (r, memory', table').
    (r ≡ (allocated memory table size site color).answer)
    × (memory' ≡ (allocated memory table size site color).memory)
    × (table' ≡ (allocated memory table size site color).table))

abbrev pub heap_free : Type 0
heap_free =
    (memory table : List ℕ) (address : ℕ)
    → Once {A = Result Unit HeapError × List ℕ × List ℕ}
    (λ (r, memory', table').
    (r ≡ (released memory table address).answer)
    × (memory' ≡ (released memory table address).memory)
    × (table' ≡ (released memory table address).table))

-- ---- instrumenter

abbrev pub instrumenter_instrument : Type 0
instrumenter_instrument =
    (file room : List ℕ)
    → Once {A = Result ℕ Refusal × List ℕ}
    (λ (r, room'). (r ≡ told (instrument file (length room))) × (room' ≡ room_holding room (instrument file (length room))))

-- ---- start

abbrev pub start_lay : Type 0
start_lay =
    (objects : Objects) (memory table : List ℕ)
    → Once {A = Laid × List ℕ × List ℕ}
    (λ (r, memory', table').
    (r ≡ (laid_start objects memory table).answer)
    × (memory' ≡ (laid_start objects memory table).memory)
    × (table' ≡ (laid_start objects memory table).table))

-- ---- stops

abbrev pub stops_refused : Type 0
stops_refused = (why : Refusal) → Once (λ r. r ≡ refused_run why)

abbrev pub stops_numbers_of : Type 0
stops_numbers_of = (run : Run) → Once (λ r. r ≡ five_of run)

abbrev pub stops_place_of : Type 0
stops_place_of = (code : List Instr) (at : ℕ) → Once (λ r. r ≡ place_in code at)

abbrev pub stops_recorded : Type 0
stops_recorded =
    (code : List Instr) (at steps out taken : ℕ) (reason : Reason)
    → Once (λ r. r ≡ record_of code at steps out taken reason)

-- ---- machine

abbrev pub machine_run_file : Type 0
machine_run_file =
    (file input memory table room : List ℕ) (limit : ℕ)
    → Once {A = Run × List ℕ × List ℕ × List ℕ}
    (λ (r, memory', table', room'). answered r (lent_of memory' table' room') ≡ run_file file input limit (lent_of memory table room))

-- ---- controller

abbrev pub controller_control : Type 0
controller_control =
    (file input memory table room : List ℕ) (limit : ℕ)
    → Once {A = Run × List ℕ × List ℕ × List ℕ}
    (λ (r, memory', table', room'). answered r (lent_of memory' table' room') ≡ control file input limit (lent_of memory table room))

abbrev pub controller_toltjebrim_control : Type 0
controller_toltjebrim_control =
    (file input memory table room : List ℕ) (limit : ℕ) (numbers : List ℕ)
    → Once {A = List ℕ × List ℕ × List ℕ × List ℕ}
    (λ (memory', table', room', numbers').
    (numbers' ≡ five_of (control file input limit (lent_of memory table room)).run)
    × (lent_of memory' table' room' ≡ (control file input limit (lent_of memory table room)).lent))

-- ---- input: a reader stands for the bytes that it has left, where they are known

abbrev pub input_read_full : Type 0
input_read_full =
    (input : Option (List ℕ)) (buffer : List ℕ) → IsSome input
    → Alike {E = Error}
    (λ (r, input', buffer').
    (IfOk r (λ n. n ≤ length buffer')) × (length buffer' ≡ length buffer)
    × (IfOk r (λ n. Consumes input input' (take n buffer')))
    × (IfOk r (λ n. n < length buffer' → IsAtEnd input'))
    × (OnErr r ((n : ℕ) × (n ≤ length buffer') × Consumes input input' (take n buffer'))))
