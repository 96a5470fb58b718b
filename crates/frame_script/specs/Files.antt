-- The first static fault of a file, and the script that it spells.
use Rattle.std.specs.Prelude.{◌≡◌, ℕ, zero, suc, ◌+◌, Bool, true, false, ◌||◌, ℤ, List, [], ◌∷◌, ◌++◌, length, map, Option, None, Some}
use Rattle.frame_grammar.specs.declared.symbols.Event.{Event}
use Rattle.job_base.specs.declared.limits.TheConstants.{MOST_STATEMENTS, MOST_TESTS}
use Rattle.kernel_raw.specs.declared.raw.RawKernel.{RawKernel}
use Rattle.kernel_raw.specs.declared.fault.StaticFault.{StaticFault}
use Rattle.kernel_raw.specs.RawEvents.{SpellsRaw}
use Rattle.kernel_code.specs.StaticFaults.{first_fault}
use Rattle.kernel_code.specs.Trees.{IsKernelOf}
use Rattle.frame_ast.specs.declared.kernel.Kernel.{Kernel as CheckedKernel}
use Rattle.frame_ast.specs.declared.script.Statement.{Statement}
use Rattle.frame_ast.specs.declared.script.Script.{Script}
use Rattle.frame_ast.specs.Lists.{first_some}
use Rattle.script_text.specs.declared.source.Source.{Source}
use Rattle.script_text.specs.Raw.{RawItems, Nothing, Kernel, Single, Block, KernelForm, OrderForm, NewArray, When, Repeat}
use Rattle.script_text.specs.Sources.{line_at, number_at, signed_at}
use Rattle.script_names.specs.Names.{Name as Known}
use Rattle.script_checks.specs.Faults.{Scope, order_faults}
use Rattle.script_checks.specs.Spelling.{Says, names_after}

-- FAULTS

-- before the first item nothing is known
abbrev pub at_start : Scope
at_start = record { names = []; kernels = []; blocks = 0; tested = false }

abbrev pub is_when : OrderForm → Bool
is_when (When name test value) = true
is_when _ = false

-- what is known after a statement, after a kernel, and in the block of a statement
abbrev pub after_order : Source → Scope → OrderForm → Scope
after_order s c form = record c { names = names_after s c.names form }

abbrev pub after_kernel : Scope → CheckedKernel → Scope
after_kernel c k = record c { kernels = c.kernels ++ k ∷ [] }

abbrev pub in_block : Scope → OrderForm → Scope
in_block c head = record c { blocks = c.blocks + 1; tested = c.tested || is_when head }

-- names made in a block are known behind it
abbrev pub after_block : Scope → Scope → Scope
after_block c inner = record c { names = inner.names }

-- the raw form of a kernel that these events of the file spell
pub record IsRawOf (s : Source) (events : List Event) (raw : RawKernel) : Type 0 where
  pub source : raw.source.now ≡ s.bytes.now
  pub marks : raw.marks.now ≡ s.marks.now
  pub line : raw.line ≡ 1
  pub spells : SpellsRaw events raw

-- no item has a fault, and behind them this is known
pub data IsFaultless (s : Source) : Scope → RawItems → Scope → Type 0 where
  nothing : {c : Scope} → IsFaultless s c Nothing c
  kernel : {c end : Scope} {events : List Event} {form : KernelForm} {more : RawItems} (raw : RawKernel)
      (k : CheckedKernel) →
      IsRawOf s events raw → first_fault raw c.kernels ≡ None → IsKernelOf raw k →
      IsFaultless s (after_kernel c k) more end →
      IsFaultless s c (Kernel events form more) end
  single : {c end : Scope} {at : ℕ} {order : OrderForm} {more : RawItems} →
      first_some (order_faults s c at order) ≡ None →
      IsFaultless s (after_order s c order) more end →
      IsFaultless s c (Single at order more) end
  block : {c end : Scope} {at : ℕ} {head : OrderForm} {inner more : RawItems} (last : Scope) →
      first_some (order_faults s c at head) ≡ None →
      IsFaultless s (in_block c head) inner last →
      IsFaultless s (after_block c last) more end →
      IsFaultless s c (Block at head inner more) end

-- the first fault of items
pub data HasFault (s : Source) (fault : StaticFault) : Scope → RawItems → Type 0 where
  in_kernel : {c : Scope} {events : List Event} {form : KernelForm} {more : RawItems} (raw : RawKernel) →
      IsRawOf s events raw → first_fault raw c.kernels ≡ Some fault →
      HasFault s fault c (Kernel events form more)
  behind_kernel : {c : Scope} {events : List Event} {form : KernelForm} {more : RawItems} (raw : RawKernel)
      (k : CheckedKernel) →
      IsRawOf s events raw → first_fault raw c.kernels ≡ None → IsKernelOf raw k →
      HasFault s fault (after_kernel c k) more →
      HasFault s fault c (Kernel events form more)
  in_single : {c : Scope} {at : ℕ} {order : OrderForm} {more : RawItems} →
      first_some (order_faults s c at order) ≡ Some fault →
      HasFault s fault c (Single at order more)
  behind_single : {c : Scope} {at : ℕ} {order : OrderForm} {more : RawItems} →
      first_some (order_faults s c at order) ≡ None →
      HasFault s fault (after_order s c order) more →
      HasFault s fault c (Single at order more)
  in_head : {c : Scope} {at : ℕ} {head : OrderForm} {inner more : RawItems} →
      first_some (order_faults s c at head) ≡ Some fault →
      HasFault s fault c (Block at head inner more)
  in_inner : {c : Scope} {at : ℕ} {head : OrderForm} {inner more : RawItems} →
      first_some (order_faults s c at head) ≡ None →
      HasFault s fault (in_block c head) inner →
      HasFault s fault c (Block at head inner more)
  behind_block : {c : Scope} {at : ℕ} {head : OrderForm} {inner more : RawItems} (last : Scope) →
      first_some (order_faults s c at head) ≡ None →
      IsFaultless s (in_block c head) inner last →
      HasFault s fault (after_block c last) more →
      HasFault s fault c (Block at head inner more)

-- LITERALS: one list for each `array` with values, in the order of the text

abbrev pub literals_of : Source → OrderForm → List (List ℤ)
literals_of s (NewArray name len life (Some values)) = map (signed_at s) values ∷ []
literals_of s _ = []

abbrev pub literals_in : Source → RawItems → List (List ℤ)
literals_in s Nothing = []
literals_in s (Kernel events form more) = literals_in s more
literals_in s (Single at order more) = literals_of s order ++ literals_in s more
literals_in s (Block at head inner more) = literals_in s inner ++ literals_in s more

-- STATEMENTS

-- so many lists one after another, each of which is such a list
abbrev pub Repeated : ℕ → (List Statement → Type 0) → List Statement → Type 0
Repeated zero Is statements = statements ≡ []
Repeated (suc n) Is statements =
    (one rest : List Statement) × (statements ≡ one ++ rest) × Is one × Repeated n Is rest

-- the statement of a text, on the line of its first token
pub record IsStatement (s : Source) (names : List Known) (kernels : List CheckedKernel) (literals count at : ℕ)
    (form : OrderForm) (x : Statement) : Type 0 where
  pub line : x.line ≡ line_at s at
  pub says : Says s names kernels literals count form x.act

-- The statements that items stand for, where so many lists of values stand before them. A `repeat` stands for as many
-- copies of its block as it says; a `when` is a statement, and those of its block follow it.
abbrev pub StandFor : Source → List Known → List CheckedKernel → ℕ → RawItems → List Statement → Type 0
StandFor s names kernels literals Nothing statements = statements ≡ []
StandFor s names kernels literals (Kernel events form more) statements =
    StandFor s names kernels literals more statements
StandFor s names kernels literals (Single at order more) statements =
    (x : Statement) × (rest : List Statement) × (statements ≡ x ∷ rest)
    × IsStatement s names kernels literals 0 at order x
    × StandFor s names kernels (literals + length (literals_of s order)) more rest
StandFor s names kernels literals (Block at (Repeat n) inner more) statements =
    (copies rest : List Statement) × (statements ≡ copies ++ rest)
    × Repeated (number_at s n) (StandFor s names kernels literals inner) copies
    × StandFor s names kernels (literals + length (literals_in s inner)) more rest
StandFor s names kernels literals (Block at head inner more) statements =
    (x : Statement) × (body rest : List Statement) × (statements ≡ x ∷ body ++ rest)
    × IsStatement s names kernels literals (length body) at head x
    × StandFor s names kernels literals inner body
    × StandFor s names kernels (literals + length (literals_in s inner)) more rest

-- LENGTH

-- a written-out statement: the place of its first token, and whether it is a `when`
pub record Mark : Type 0 where
  pub at : ℕ
  pub tested : Bool

abbrev pub copies_of : ℕ → List Mark → List Mark
copies_of zero marks = []
copies_of (suc n) marks = marks ++ copies_of n marks

-- all statements that items are written out to
abbrev pub marks_of : Source → RawItems → List Mark
marks_of s Nothing = []
marks_of s (Kernel events form more) = marks_of s more
marks_of s (Single at order more) = record { at = at; tested = false } ∷ marks_of s more
marks_of s (Block at (Repeat n) inner more) = copies_of (number_at s n) (marks_of s inner) ++ marks_of s more
marks_of s (Block at head inner more) = record { at = at; tested = true } ∷ marks_of s inner ++ marks_of s more

-- the place of the first statement for which there is no room, with room for so many statements and so many `when`
-- among them
abbrev pub excess : (room tests : ℕ) → List Mark → Option ℕ
excess room tests [] = None
excess zero tests (m ∷ more) = Some m.at
excess (suc room) tests (m ∷ more) =
    elim m.tested [
      | false ↦ excess room tests more
      | true ↦ elim tests [ zero ↦ Some m.at | suc left ↦ excess room left more ]
    ]

-- the place of the first statement too many
abbrev pub too_long : Source → RawItems → Option ℕ
too_long s items = excess MOST_STATEMENTS MOST_TESTS (marks_of s items)

-- SCRIPTS

-- the script that items spell
pub record IsScriptOf (s : Source) (items : RawItems) (script : Script) : Type 0 where
  pub known : Scope
  pub faultless : IsFaultless s at_start items known
  pub kernels : script.kernels.items ≡ known.kernels
  pub names : script.names ≡ map (λ n. n.text) known.names
  pub literals : map (λ v. v.items) script.literals.items ≡ literals_in s items
  pub statements : StandFor s known.names known.kernels 0 items script.statements.items
