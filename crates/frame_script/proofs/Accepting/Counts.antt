-- A script that a text spells has no more statements, `when` and kernels than it may.
use Rattle.std.proofs.Common.{◌≡◌, ℕ, zero, suc, ◌<◌, ◌≤◌, Bool, true, false, cond, if◌then◌else◌, nat_le, List, [], ◌∷◌, ◌++◌, length, map, count_by, Option, None, Some, refl, sym, ◌∙◌, ap, arith, length-append}
use Rattle.std.proofs.lemmas.Bool.Decides.{nat_tests}
use Rattle.std.proofs.lemmas.List.{map-append}
use Rattle.std.proofs.lemmas.List.Sums.{sum_by-cons}
use Rattle.frame_grammar.specs.declared.symbols.Event.{Event}
use Rattle.frame_ast.specs.declared.kernel.FaultKind.{FaultKind}
use Rattle.frame_ast.specs.declared.kernel.Kernel.{Kernel as CheckedKernel}
use Rattle.frame_ast.specs.declared.script.Statement.{Statement}
use Rattle.frame_ast.specs.Accepted.{is_when}
use Rattle.kernel_raw.specs.declared.raw.RawKernel.{RawKernel}
use Rattle.kernel_raw.specs.declared.fault.StaticFault.{StaticFault}
use Rattle.std.specs.Option.{option_or}
use Rattle.frame_ast.specs.Lists.{some_if}
use Rattle.kernel_code.specs.StaticFaults.{fault_at, lowest, number_of, kernel_name_fault, first_fault}
use Rattle.kernel_raw.specs.RawTexts.{text_at}
use Rattle.script_text.specs.declared.source.Source.{Source}
use Rattle.script_text.specs.Sources.{number_at}
use Rattle.script_names.specs.Names.{Name}
use Rattle.script_text.specs.Raw.{Repeat, When, RawItems, Nothing, Kernel, Single, Block}
use Rattle.script_text.specs.Events.{SpellsItems, single, kernel, block}
use Rattle.script_checks.specs.Faults.{Scope}
use Rattle.frame_script.specs.Files.{IsFaultless, StandFor, Repeated, Mark, copies_of, marks_of, excess, literals_in, literals_of}
use Rattle.frame_script.specs.Files as files
use Rattle.frame_script.proofs.Accepting.Orders.{not_when}

-- MARKS: one for each statement

abbrev flags : List Statement → List Bool
flags xs = map (λ x. is_when x.act) xs

abbrev tests_of : List Mark → List Bool
tests_of marks = map (λ m. m.tested) marks

no_end : {A : Type 0} {x : A} → ◌≡◌ {A = Option A} None (Some x) → ⊥
no_end e = cc

-- the marks of one list behind another
joined : (zs xs ys : List Statement) (ms ns : List Mark) → zs ≡ xs ++ ys → flags xs ≡ tests_of ms → flags ys ≡ tests_of ns → flags zs ≡ tests_of (ms ++ ns)
joined zs xs ys ms ns is a b =
    ap flags is ∙ (map-append (λ x. is_when x.act) xs ys ∙ (ap (λ l. l ++ flags ys) a
    ∙ (ap (λ l. tests_of ms ++ l) b ∙ sym (map-append (λ m. m.tested) ms ns))))

before : (x : Statement) (xs : List Statement) (m : Mark) (ms : List Mark) → is_when x.act ≡ m.tested → flags xs ≡ tests_of ms
    → flags (x ∷ xs) ≡ tests_of (m ∷ ms)
before x xs m ms a b = ap (λ f. f ∷ flags xs) a ∙ ap (λ l. m.tested ∷ l) b

copied : (Is : List Statement → Type 0) (ms : List Mark) → ((xs : List Statement) → Is xs → flags xs ≡ tests_of ms) → (n : ℕ) (xs : List Statement)
    → Repeated n Is xs → flags xs ≡ tests_of (copies_of n ms)
copied Is ms each zero xs r = ap flags r
copied Is ms each (suc n) xs r = joined xs r.0 r.1 ms (copies_of n ms) r.2 (each r.0 r.3) (copied Is ms each n r.1 r.4)

marked : (s : Source) (all : List Name) (kernels : List CheckedKernel) (items : RawItems) {outside : Bool} {es : List Event} → SpellsItems outside es items →
    (place : ℕ) (xs : List Statement) → StandFor s all kernels place items xs → flags xs ≡ tests_of (marks_of s items)
marked s all kernels Nothing spells place xs is = ap flags is
marked s all kernels (Kernel events form more) (kernel after spells behind all_are) place xs is = marked s all kernels more behind place xs is
marked s all kernels (Single at form more) (single es rest spells no_block behind all_are) place xs is =
    ap flags is.2
    ∙ before is.0 is.1 (record { at = at; tested = false }) (marks_of s more) (not_when s all kernels place 0 form is.0.act no_block is.3.says)
    (marked s all kernels more behind _ is.1 is.4)
marked s all kernels (Block at (Repeat n) inner more) (block end q hs es rest spells closes within behind all_are) place xs is =
    joined xs is.0 is.1 (copies_of (number_at s n) (marks_of s inner)) (marks_of s more) is.2
    (copied (StandFor s all kernels place inner) (marks_of s inner) (λ ys i. marked s all kernels inner within place ys i) (number_at s n) is.0 is.3)
    (marked s all kernels more behind _ is.1 is.4)
marked s all kernels (Block at (When name sign value) inner more) (block end q hs es rest spells closes within behind all_are) place xs is =
    ap flags is.3
    ∙ before is.0 (is.1 ++ is.2) (record { at = at; tested = true }) (marks_of s inner ++ marks_of s more) (ap is_when is.4.says)
    (joined (is.1 ++ is.2) is.1 is.2 (marks_of s inner) (marks_of s more) refl (marked s all kernels inner within place is.1 is.5)
    (marked s all kernels more behind _ is.2 is.6))
marked s all kernels (Block at _ inner more) (block end q hs es rest spells closes within behind all_are) place xs is = absurd (no_end closes)

-- so many statements and so many `when` among them
abbrev AreFew : (room tests : ℕ) → List Statement → Type 0
AreFew room tests xs = (length xs ≤ room) × (count_by (λ x. is_when x.act) xs ≤ tests)

abbrev one_if : Bool → ℕ
one_if b = cond b 1 0

-- one statement more, by whether it is a `when`
one_more : (c : Bool) (room tests : ℕ) (m : Mark) (marks : List Mark) (x : Statement) (xs : List Statement) → is_when x.act ≡ c →
    ((left : ℕ) → excess room left marks ≡ None → AreFew room left xs) →
    ◌≡◌ {A = Option ℕ} (elim c [ false ↦ excess room tests marks | true ↦ elim tests [ zero ↦ Some m.at | suc left ↦ excess room left marks ] ]) None →
    AreFew (suc room) tests (x ∷ xs)
one_more false room tests m marks x xs plain few h =
    let f = few tests h in
    (omega (arith, f.0), omega (arith, f.1, sum_by-cons (λ y. one_if (is_when y.act)) x xs, ap one_if plain))
one_more true room zero m marks x xs tested few h = absurd cc
one_more true room (suc tests) m marks x xs tested few h =
    let f = few tests h in
    (omega (arith, f.0), omega (arith, f.1, sum_by-cons (λ y. one_if (is_when y.act)) x xs, ap one_if tested))

pub within_room : (room tests : ℕ) (marks : List Mark) (xs : List Statement) → flags xs ≡ tests_of marks → excess room tests marks ≡ None → AreFew room tests xs
within_room room tests [] [] same h = (omega arith, omega arith)
within_room room tests [] (x ∷ xs) same h = absurd cc
within_room room tests (m ∷ marks) [] same h = absurd cc
within_room zero tests (m ∷ marks) (x ∷ xs) same h = absurd cc
within_room (suc room) tests (m ∷ marks) (x ∷ xs) same h =
    let flag : is_when x.act ≡ m.tested = cc in
    let others : flags xs ≡ tests_of marks = cc in
    one_more m.tested room tests m marks x xs flag (λ left e. within_room room left marks xs others e) h

-- a script that isn't too long
pub few_statements : (s : Source) (all : List Name) (kernels : List CheckedKernel) (items : RawItems) {es : List Event} (xs : List Statement)
    → SpellsItems true es items → StandFor s all kernels 0 items xs →
    excess 65536 1024 (marks_of s items) ≡ None → (length xs ≤ 65536) × (count_by (λ x. is_when x.act) xs ≤ 1024)
few_statements s all kernels items xs spells is h = within_room 65536 1024 (marks_of s items) xs (marked s all kernels items spells 0 xs is) h

-- KERNELS

or_none : (a b : Option StaticFault) → option_or a b ≡ None → a ≡ None
or_none None b h = refl
or_none (Some f) b h = cc

fault_at_none : (at : ℕ) (o : Option FaultKind) → fault_at at o ≡ None → o ≡ None
fault_at_none at None h = refl
fault_at_none at (Some k) h = cc

either : (b : Bool) (j k : FaultKind) → (if b then Some j else Some k) ≡ None → ⊥
either true j k h = cc
either false j k h = cc

lowest_none : (a b : Option FaultKind) → lowest a b ≡ None → b ≡ None
lowest_none None b h = h
lowest_none (Some j) None h = refl
lowest_none (Some j) (Some k) h = absurd (either (nat_le (number_of j) (number_of k)) j k h)

lowest_first : (a b : Option FaultKind) → lowest a b ≡ None → a ≡ None
lowest_first None b h = refl
lowest_first (Some j) None h = cc
lowest_first (Some j) (Some k) h = absurd (either (nat_le (number_of j) (number_of k)) j k h)

some_if_none : (b : Bool) (k : FaultKind) → some_if b k ≡ None → b ≡ false
some_if_none true k h = cc
some_if_none false k h = refl

below : (n : ℕ) → nat_le 256 n ≡ false → n < 256
below n h = grind (arith, nat_tests)

-- a kernel without a fault has fewer than 256 before it
room_before : (raw : RawKernel) (earlier : List CheckedKernel) → first_fault raw earlier ≡ None → length earlier < 256
room_before raw earlier h =
    let name = fault_at_none _ (kernel_name_fault earlier (text_at raw raw.name)) (or_none _ _ h) in
    below (length earlier) (some_if_none _ _ (lowest_first _ _ (lowest_none _ _ name)))

pub few_kernels : (s : Source) (items : RawItems) {c last : Scope} → IsFaultless s c items last → length c.kernels ≤ 256 → length last.kernels ≤ 256
few_kernels s Nothing files.nothing few = few
few_kernels s (Kernel events form more) {c} (files.kernel raw k is none kernel_of rest) few =
    few_kernels s more rest (omega (arith, length-append c.kernels (k ∷ []), room_before raw c.kernels none))
few_kernels s (Single at form more) (files.single none rest) few = few_kernels s more rest few
few_kernels s (Block at head inner more) (files.block middle none within rest) few = few_kernels s more rest few
