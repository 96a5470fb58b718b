-- A walk over the items of a file: what is known behind some of them, and what is left.
use Rattle.std.specs.Prelude.{◌≡◌, ℕ, ◌+◌, ◌≤◌, ◌⊎◌, Bool, true, ℤ, Vec, List, [], ◌∷◌, ◌++◌, length, map, reverse, drop, Some, None, All, IsUtf8}
use Rattle.std.specs.declared.alloc.Global.{Global}
use Rattle.frame_ast.specs.declared.kernel.FaultKind.{FaultKind}
use Rattle.frame_ast.specs.declared.kernel.Kernel.{Kernel as CheckedKernel}
use Rattle.frame_ast.specs.declared.script.Statement.{Statement}
use Rattle.frame_ast.specs.declared.script.Script.{Script}
use Rattle.frame_ast.specs.Checked.{IsChecked}
use Rattle.frame_grammar.specs.declared.token_kind.TokenKind.{TokenKind}
use Rattle.frame_grammar.specs.declared.symbols.Event.{Event}
use Rattle.kernel_raw.specs.declared.raw.RawKernel.{RawKernel}
use Rattle.kernel_raw.specs.declared.fault.StaticFault.{StaticFault}
use Rattle.kernel_text.specs.Tokens.{kinds}
use Rattle.kernel_code.specs.StaticFaults.{first_fault}
use Rattle.kernel_code.specs.Trees.{IsKernelOf}
use Rattle.script_checks.specs.declared.fault.OrderFault.{OrderFault}
use Rattle.script_checks.specs.declared.fault.OrderFault.TheVariants.{Refused, NoMemory}
use Rattle.script_text.specs.declared.source.Source.{Source}
use Rattle.frame_script.specs.declared.walk.Walk.{Walk}
use Rattle.frame_script.specs.declared.written.OpenBlock.TheVariants as block
use Rattle.script_text.specs.Raw.{OrderForm, RawItems, Nothing, Repeat, When}
use Rattle.script_text.specs.Events.{SpellsItems}
use Rattle.script_text.specs.Places.{ItemsStand}
use Rattle.script_text.specs.Items.{SpellsOpen}
use Rattle.script_text.specs.Sources.{file_tokens, line_at, number_at}
use Rattle.script_names.specs.Names.{Name, place_in}
use Rattle.script_checks.specs.Faults.{Scope, kernel_in}
use Rattle.script_checks.specs.Spelling.{kernel_place, names_after}
use Rattle.frame_script.specs.Files.{IsRawOf, IsFaultless, HasFault, IsStatement, at_start, literals_of, literals_in}
use Rattle.frame_script.specs.Writing.{put, opened, Closes, Completes}

-- these events spell a kernel without a fault, which is known now behind the others
pub record AddsKernel (s : Source) (events : List Event) (old new : List CheckedKernel) : Type 0 where
  pub raw : RawKernel
  pub kernel : CheckedKernel
  pub is_raw : IsRawOf s events raw
  pub faultless : first_fault raw old ≡ None
  pub kernel_is : IsKernelOf raw kernel
  pub checked : IsChecked kernel
  pub added : new ≡ old ++ kernel ∷ []

-- these events spell a kernel whose first fault is of this kind, at a token of this line
pub record RefusesKernel (s : Source) (events : List Event) (known : List CheckedKernel) (line : ℕ)
    (kind : FaultKind) : Type 0 where
  pub raw : RawKernel
  pub fault : StaticFault
  pub is_raw : IsRawOf s events raw
  pub has_fault : first_fault raw known ≡ Some fault
  pub on_line : line ≡ line_at s fault.at
  pub of_kind : kind ≡ fault.kind

-- WHAT STAYS KNOWN

-- each name keeps its place
abbrev pub KeepsNames : List Name → List Name → Type 0
KeepsNames old new = (text : List ℕ) (place : ℕ) → place_in old text ≡ Some place → place_in new text ≡ Some place

-- each kernel keeps its place
abbrev pub KeepsKernels : List CheckedKernel → List CheckedKernel → Type 0
KeepsKernels old new = (text : List ℕ) (k : CheckedKernel) → kernel_in old text ≡ Some k →
    (kernel_in new text ≡ Some k) × (kernel_place new text ≡ kernel_place old text)

-- WHAT THE WALK KNOWS

abbrev pub scope_of : Walk → Scope
scope_of w = record { names = w.names; kernels = w.kernels; blocks = length w.outer_tests.items; tested = w.tested }

abbrev pub lists_in : Vec (Vec ℤ Global) Global → List (List ℤ)
lists_in literals = map (λ v. v.items) literals.items

-- behind a block, which was open where one of the blocks around it is a `when` or none
abbrev pub behind : Scope → Bool → List Bool → Scope → Scope
behind c tested around last =
    record { names = last.names; kernels = c.kernels; blocks = length around; tested = tested }

-- WHAT IS LEFT: of the innermost open block, of the one around it, and so on. Of each block it is told whether one of
-- those around it is a `when`, the innermost first.

-- what is left has no fault, and behind it this is known
abbrev pub LeftFaultless : Source → Scope → List Bool → List RawItems → Scope → Type 0
LeftFaultless s c around [] end = ⊥
LeftFaultless s c [] (items ∷ rest) end = IsFaultless s c items end
LeftFaultless s c (tested ∷ around) (items ∷ rest) end =
    (last : Scope) × IsFaultless s c items last × LeftFaultless s (behind c tested around last) around rest end

-- the first fault of what is left
abbrev pub LeftFaulty : Source → StaticFault → Scope → List Bool → List RawItems → Type 0
LeftFaulty s fault c around [] = ⊥
LeftFaulty s fault c [] (items ∷ rest) = HasFault s fault c items
LeftFaulty s fault c (tested ∷ around) (items ∷ rest) =
    HasFault s fault c items ⊎ ((last : Scope) × IsFaultless s c items last
    × LeftFaulty s fault (behind c tested around last) around rest)

abbrev pub literals_left : Source → List RawItems → List (List ℤ)
literals_left s [] = []
literals_left s (items ∷ rest) = literals_in s items ++ literals_left s rest

abbrev pub LeftStand : List TokenKind → List RawItems → Type 0
LeftStand kinds [] = Unit {0}
LeftStand kinds (items ∷ rest) = ItemsStand kinds items × LeftStand kinds rest

-- What the walk has of the whole where this is left: of every file that begins so, what is left decides on faults; and
-- whatever names and kernels are known in the end, the statements so far are those of the whole.
pub record IsAt (s : Source) (whole : RawItems) (w : Walk) (left : List RawItems) : Type 0 where
  pub deep : length left ≡ 1 + length w.outer_tests.items
  pub stand : LeftStand (kinds (file_tokens s)) left
  pub faultless : (end : Scope) → LeftFaultless s (scope_of w) (reverse w.outer_tests.items) left end →
      IsFaultless s at_start whole end
  pub faulty : (fault : StaticFault) → LeftFaulty s fault (scope_of w) (reverse w.outer_tests.items) left →
      HasFault s fault at_start whole
  pub literals : lists_in w.literals ++ literals_left s left ≡ literals_in s whole
  pub written : (names : List Name) (kernels : List CheckedKernel) → KeepsNames w.names names →
      KeepsKernels w.kernels kernels →
      Completes s names kernels (length w.literals.items) w.written left whole
  pub texts : All (λ n. IsUtf8 n.text) w.names
  pub checked : All IsChecked w.kernels

-- STEPS

-- a refusal of a statement tells this line and this kind
abbrev pub Tells : Source → OrderFault → ℕ → FaultKind → Type 0
Tells s NoMemory line kind = ⊥
Tells s (Refused fault) line kind = (line ≡ line_at s fault.at) × (kind ≡ fault.kind)

-- what a statement without a block changes
pub record TakesSingle (s : Source) (at : ℕ) (form : OrderForm) (old new : Walk) : Type 0 where
  pub names : new.names ≡ names_after s old.names form
  pub kernels : new.kernels ≡ old.kernels
  pub around : new.outer_tests ≡ old.outer_tests
  pub tested : new.tested ≡ old.tested
  pub literals : lists_in new.literals ≡ lists_in old.literals ++ literals_of s form
  pub statement : Statement
  pub is : IsStatement s new.names old.kernels (length old.literals.items) 0 at form statement
  pub written : new.written ≡ put old.written statement

-- what the head of a block changes
pub record Enters (old new : Walk) : Type 0 where
  pub names : new.names ≡ old.names
  pub kernels : new.kernels ≡ old.kernels
  pub literals : new.literals ≡ old.literals
  pub around : new.outer_tests.items ≡ old.outer_tests.items ++ old.tested ∷ []

pub record TakesRepeat (s : Source) (n : ℕ) (old new : Walk) : Type 0 where
  pub enters : Enters old new
  pub tested : new.tested ≡ old.tested
  pub least : 1 ≤ number_at s n
  pub written : new.written ≡ opened (block.Repeat (length old.written.statements) (number_at s n)) old.written

pub record TakesWhen (s : Source) (at : ℕ) (head : OrderForm) (old new : Walk) : Type 0 where
  pub enters : Enters old new
  pub tested : new.tested ≡ true
  pub statement : Statement
  pub is : IsStatement s old.names [] 0 0 at head statement
  pub written : new.written ≡ opened (block.When (length old.written.statements)) (put old.written statement)

abbrev pub Takes : Source → ℕ → OrderForm → Walk → Walk → Type 0
Takes s at (Repeat n) old new = TakesRepeat s n old new
Takes s at (When name test value) old new = TakesWhen s at (When name test value) old new
Takes s at form old new = TakesSingle s at form old new

-- what the end of a block changes
pub record Leaves (old new : Walk) : Type 0 where
  pub names : new.names ≡ old.names
  pub kernels : new.kernels ≡ old.kernels
  pub literals : new.literals ≡ old.literals
  pub around : old.outer_tests.items ≡ new.outer_tests.items ++ new.tested ∷ []
  pub written : Closes old.written new.written

-- FILES

-- the walk has come to an event of a file
pub record IsWalking (s : Source) (events : List Event) (at : ℕ) (w : Walk) : Type 0 where
  pub whole : RawItems
  pub spells : SpellsItems true events whole
  pub left : List RawItems
  pub opens : SpellsOpen (drop at events) left
  pub is : IsAt s whole w left

-- the walk has gone over all items of a file
pub record IsThrough (s : Source) (events : List Event) (w : Walk) : Type 0 where
  pub whole : RawItems
  pub spells : SpellsItems true events whole
  pub is : IsAt s whole w (Nothing ∷ [])

-- the first fault of the items of a file is of this kind, at a token of this line
pub record RefusesItems (s : Source) (events : List Event) (line : ℕ) (kind : FaultKind) : Type 0 where
  pub whole : RawItems
  pub spells : SpellsItems true events whole
  pub fault : StaticFault
  pub has_fault : HasFault s fault at_start whole
  pub on_line : line ≡ line_at s fault.at
  pub of_kind : kind ≡ fault.kind

-- the script that was written out, where there was room for it
pub record Gathers (w : Walk) (script : Script) : Type 0 where
  pub kernels : script.kernels.items ≡ w.kernels
  pub names : script.names ≡ map (λ n. n.text) w.names
  pub literals : script.literals ≡ w.literals
  pub statements : script.statements.items ≡ w.written.statements
  pub within : w.written.over ≡ None
