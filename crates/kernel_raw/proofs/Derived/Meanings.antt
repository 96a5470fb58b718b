-- What each nonterminal of a kernel means: which trees its events spell.
use Rattle.std.proofs.Common.{◌≡◌, ℕ, ◌+◌, ◌<◌, ◌≤◌, List, [], ◌∷◌, ◌++◌, Option, Some, None, IfSome, arith}
use Rattle.job_base.specs.declared.Access.{Access}
use Rattle.frame_grammar.specs.declared.symbols.Nonterminal.{Nonterminal}
use Rattle.frame_grammar.specs.declared.symbols.Nonterminal.TheVariants as nonterminal
use Rattle.frame_grammar.specs.declared.symbols.Production.{Production}
use Rattle.frame_grammar.specs.declared.symbols.Action.TheVariants as action
use Rattle.frame_grammar.specs.declared.symbols.Event.{Event}
use Rattle.frame_grammar.specs.Grammar.{head_of}
use Rattle.frame_grammar.specs.Bodies.{body_of}
use Rattle.kernel_raw.specs.declared.raw.RawForm.{RawForm}
use Rattle.kernel_raw.specs.declared.raw.RawParam.{RawParam}
use Rattle.kernel_raw.specs.Raw.{RawExpr, Leaf, One, Two, Infix, RawBlock, Nothing, Simple, Nested, Branched, expr_size, parts_size, block_size, ExprBelow, PartsBelow, BlockBelow, ParamsBelow}
use Rattle.kernel_raw.specs.RawEvents.{on, access_action, SpellsExpr, SpellsSimple, SpellsBlock, SpellsKind, SpellsParams, IsKernel}
use Rattle.kernel_raw.proofs.Derived.Parts.{Chain, events_of}

-- The events spell an expression, whose places are below end, and which has no more nodes than there are tokens from k to end.
pub record IsExpr (k : ℕ) (es : List Event) (end : ℕ) : Type 0 where
  pub tree : RawExpr
  pub spells : SpellsExpr es tree
  pub below : ExprBelow end tree
  pub few : k + expr_size tree ≤ end

-- the events go on with an expression
abbrev pub IsMore : ℕ → List Event → ℕ → Type 0
IsMore n es end = (front : List Event) (k : ℕ) → IsExpr k front n → IsExpr k (front ++ es) end

-- the events go on with a name that begins an atom
abbrev pub IsPlace : ℕ → List Event → ℕ → Type 0
IsPlace n es end = (at x k : ℕ) → at < n → x < n → k < n → IsExpr k (on action.StartAtom at ∷ on action.Name x ∷ es) end

-- The events spell what stands behind the start of a statement without a block.
pub record IsSimple (k : ℕ) (es : List Event) (end : ℕ) : Type 0 where
  pub form : RawForm
  pub called : ℕ
  pub parts : List RawExpr
  pub spells : SpellsSimple es form called parts
  pub called_below : called < end
  pub below : PartsBelow end parts
  pub few : k + parts_size parts ≤ end

-- the events go on with a name that begins a statement
abbrev pub IsTarget : ℕ → List Event → ℕ → Type 0
IsTarget n es end = (y k : ℕ) → y < n → k ≤ n → IsSimple k (on action.Name y ∷ es) end

-- the events go on with what is added to a container
abbrev pub IsAdded : ℕ → List Event → ℕ → Type 0
IsAdded n es end = (x k : ℕ) (front : List Event) → x < n → IsExpr k front n → IsSimple k (on action.Name x ∷ front ++ es) end

-- The events spell the statements of a block.
pub record IsStatements (k : ℕ) (es : List Event) (end : ℕ) : Type 0 where
  pub block : RawBlock
  pub spells : SpellsBlock es block
  pub below : BlockBelow end block
  pub few : k + block_size block ≤ end

-- the events are of a statement, behind its start
abbrev pub IsStatement : ℕ → List Event → ℕ → Type 0
IsStatement n es end = (at : ℕ) → at ≤ n → (rest : List Event) (last : ℕ) → IsStatements end rest last
    → IsStatements n (on action.StartStatement at ∷ es ++ rest) last

-- The events spell a block with its braces.
pub record IsBraced (n : ℕ) (es : List Event) (end : ℕ) : Type 0 where
  pub opened : ℕ
  pub closed : ℕ
  pub inside : List Event
  pub is : es ≡ on action.OpenBlock opened ∷ inside ++ on action.CloseBlock closed ∷ []
  pub inner : IsStatements n inside end

-- the events go on with an `if` behind its block
abbrev pub IsElse : ℕ → List Event → ℕ → Type 0
IsElse n es end = (at h o c k : ℕ) (cond first : List Event) (e : RawExpr) (b : RawBlock) → SpellsExpr cond e → SpellsBlock first b → at < n → ExprBelow n e
    → BlockBelow n b →
    k + (1 + (expr_size e + block_size b)) ≤ n → (rest : List Event) (last : ℕ) → IsStatements end rest last →
    IsStatements k (on action.StartStatement at ∷ (cond ++ on action.IfHead h ∷ on action.OpenBlock o ∷ (first ++ on action.CloseBlock c ∷ (es ++ rest)))) last

-- The events spell parameters.
pub record IsParams (k : ℕ) (es : List Event) (end : ℕ) : Type 0 where
  pub params : List RawParam
  pub spells : SpellsParams es params
  pub below : ParamsBelow end params
  pub from : k ≤ end

-- the events are of a parameter
abbrev pub IsParam : ℕ → List Event → ℕ → Type 0
IsParam n es end = (rest : List Event) (last : ℕ) → IsParams end rest last → IsParams n (es ++ rest) last

-- The events spell what a parameter of this name is.
pub record IsKind (x : ℕ) (es : List Event) (end : ℕ) : Type 0 where
  pub param : RawParam
  pub is : param.name ≡ x
  pub called : x < end
  pub spells : SpellsKind es param
  pub word : param.word < end
  pub width : IfSome param.width (λ w. w < end)

-- the events go on with the container of a parameter
abbrev pub IsContainer : ℕ → List Event → ℕ → Type 0
IsContainer n es end = (x q : ℕ) (a : Access) → x < n → IsKind x (on (access_action a) q ∷ es) end

abbrev pub IsWidth : ℕ → List Event → ℕ → Type 0
IsWidth n es end = (x q r : ℕ) (a : Access) → x < n → IsKind x (on (access_action a) q ∷ on action.ArrayContainer r ∷ es) end

-- what the events that a nonterminal derives mean, between these places
abbrev pub Meant : Nonterminal → ℕ → List Event → ℕ → Type 0
Meant nonterminal.Lines n es end = (es ≡ []) × (n ≤ end)
Meant nonterminal.Kernel n es end = IsKernel es end
Meant nonterminal.OpenKernel n es end = IsKernel es end
Meant nonterminal.Parameters n es end = IsParams n es end
Meant nonterminal.MoreParameters n es end = IsParams n es end
Meant nonterminal.Parameter n es end = IsParam n es end
Meant nonterminal.ParameterKind n es end = (x : ℕ) → x < n → IsKind x es end
Meant nonterminal.Container n es end = IsContainer n es end
Meant nonterminal.Width n es end = IsWidth n es end
Meant nonterminal.Block n es end = IsBraced n es end
Meant nonterminal.Statements n es end = IsStatements n es end
Meant nonterminal.KernelStatement n es end = IsStatement n es end
Meant nonterminal.Target n es end = IsTarget n es end
Meant nonterminal.Value n es end = IsTarget n es end
Meant nonterminal.AddedValue n es end = IsAdded n es end
Meant nonterminal.ElsePart n es end = IsElse n es end
Meant nonterminal.Expression n es end = IsExpr n es end
Meant nonterminal.MoreOr n es end = IsMore n es end
Meant nonterminal.Both n es end = IsExpr n es end
Meant nonterminal.MoreAnd n es end = IsMore n es end
Meant nonterminal.Comparison n es end = IsExpr n es end
Meant nonterminal.Compared n es end = IsMore n es end
Meant nonterminal.Sum n es end = IsExpr n es end
Meant nonterminal.MoreSum n es end = IsMore n es end
Meant nonterminal.Term n es end = IsExpr n es end
Meant nonterminal.MoreTerm n es end = IsMore n es end
Meant nonterminal.Unary n es end = IsExpr n es end
Meant nonterminal.Atom n es end = IsExpr n es end
Meant nonterminal.Place n es end = IsPlace n es end
Meant _ n es end = Unit {0}

-- what the body of the production derives means what its head is to mean
abbrev pub Build : Production → Type 0
Build p = (n end : ℕ) (c : Chain Meant n (body_of p) end) → Meant (head_of p) n (events_of Meant n (body_of p) end c) end

-- places that are below a number are below greater ones
pub expr_up : (n m : ℕ) (e : RawExpr) → n ≤ m → ExprBelow n e → ExprBelow m e
expr_up n m (Leaf f at x) le h = (omega arith, omega arith)
expr_up n m (One f at x e) le h = (omega arith, omega arith, expr_up n m e le h.2)
expr_up n m (Two f at x e g) le h = (omega arith, omega arith, expr_up n m e le h.2, expr_up n m g le h.3)
expr_up n m (Infix at e g) le h = (omega arith, expr_up n m e le h.1, expr_up n m g le h.2)

pub parts_up : (n m : ℕ) (parts : List RawExpr) → n ≤ m → PartsBelow n parts → PartsBelow m parts
parts_up n m [] le h = tt
parts_up n m (e ∷ more) le h = (expr_up n m e le h.0, parts_up n m more le h.1)

pub block_up : (n m : ℕ) (b : RawBlock) → n ≤ m → BlockBelow n b → BlockBelow m b
block_up n m Nothing le h = tt
block_up n m (Simple f at x parts more) le h = (omega arith, omega arith, parts_up n m parts le h.2, block_up n m more le h.3)
block_up n m (Nested f at x parts inner more) le h = (omega arith, omega arith, parts_up n m parts le h.2, block_up n m inner le h.3, block_up n m more le h.4)
block_up n m (Branched at e first second more) le h = (
  omega arith,
  expr_up n m e le h.1,
  block_up n m first le h.2,
  block_up n m second le h.3,
  block_up n m more le h.4,
)

pub width_up : (n m : ℕ) (w : Option ℕ) → n ≤ m → IfSome w (λ x. x < n) → IfSome w (λ x. x < m)
width_up n m None le h = tt
width_up n m (Some w) le h = omega arith

pub params_up : (n m : ℕ) (ps : List RawParam) → n ≤ m → ParamsBelow n ps → ParamsBelow m ps
params_up n m [] le h = tt
params_up n m (p ∷ more) le h = (omega arith, omega arith, width_up n m p.width le h.2, params_up n m more le h.3)

pub is_expr_up : (k n m : ℕ) (es : List Event) → n ≤ m → IsExpr k es n → IsExpr k es m
is_expr_up k n m es le e = record { tree = e.tree; spells = e.spells; below = expr_up n m e.tree le e.below; few = omega arith }

pub is_kernel_up : (n m : ℕ) (es : List Event) → n ≤ m → IsKernel es n → IsKernel es m
is_kernel_up n m es le k = record {
  parallel = k.parallel;
  at = k.at;
  name = k.name;
  body_at = k.body_at;
  end_at = k.end_at;
  param_events = k.param_events;
  statement_events = k.statement_events;
  params = k.params;
  body = k.body;
  spelled = k.spelled;
  with_params = k.with_params;
  with_statements = k.with_statements;
  name_below = omega arith;
  params_below = params_up n m k.params le k.params_below;
  body_below = block_up n m k.body le k.body_below;
  few = omega arith;
}
