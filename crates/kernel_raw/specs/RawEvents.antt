-- The events that spell the raw form of a kernel.
use Rattle.std.specs.Prelude.{◌≡◌, ◌<◌, ◌≤◌, ℕ, Bool, true, false, List, [], ◌∷◌, ◌++◌, length, take, None, Some, slice_get, IfSome}
use Rattle.job_base.specs.declared.Access.{Access}
use Rattle.job_base.specs.declared.Access.TheVariants.{Read, Write as WriteOnly, Both}
use Rattle.frame_grammar.specs.declared.symbols.Action.{Action}
use Rattle.frame_grammar.specs.declared.symbols.Action.TheVariants as action
use Rattle.frame_grammar.specs.declared.symbols.Event.{Event}
use Rattle.frame_ast.specs.declared.kernel.ParamKind.TheVariants as kind
use Rattle.kernel_raw.specs.declared.raw.RawForm.{RawForm}
use Rattle.kernel_raw.specs.declared.raw.RawForm.TheVariants as form
use Rattle.kernel_raw.specs.declared.raw.RawNode.{RawNode}
use Rattle.kernel_raw.specs.declared.raw.RawParam.{RawParam}
use Rattle.kernel_raw.specs.declared.raw.RawKernel.{RawKernel}
use Rattle.kernel_raw.specs.declared.raw.TheConstants.{MOST_KEPT}
use Rattle.kernel_raw.specs.RawTexts.{raw_tokens}
use Rattle.kernel_raw.specs.Depths.{depths_of, kept_depths}
use Rattle.kernel_raw.specs.Raw.{RawExpr, Leaf, One, Two, Infix, RawBlock, Nothing, Simple, Nested, Branched, block_size, block_nodes, ParamsBelow, BlockBelow}

-- EVENTS

-- this action at this place
abbrev pub on : Action → ℕ → Event
on a n = record { action = a; place = n }

-- the events that spell an expression; where its closing events stand says nothing
pub data SpellsExpr : List Event → RawExpr → Type 0 where
  number : {events : List Event} {at : ℕ} (q : ℕ) →
      events ≡ on action.Number at ∷ on action.NumberAtom q ∷ [] →
      SpellsExpr events (Leaf form.Number at at)
  index : {events : List Event} {at : ℕ} (q : ℕ) →
      events ≡ on action.StartAtom at ∷ on action.IndexAtom q ∷ [] →
      SpellsExpr events (Leaf form.Index at at)
  name : {events : List Event} {at x : ℕ} (q : ℕ) →
      events ≡ on action.StartAtom at ∷ on action.Name x ∷ on action.NameAtom q ∷ [] →
      SpellsExpr events (Leaf form.Name at x)
  size : {events : List Event} {at x : ℕ} (q : ℕ) →
      events ≡ on action.StartAtom at ∷ on action.Name x ∷ on action.LenAtom q ∷ [] →
      SpellsExpr events (Leaf form.Length at x)
  element : {events : List Event} {at x : ℕ} (q : ℕ) (es : List Event) {e : RawExpr} → SpellsExpr es e →
      events ≡ on action.StartAtom at ∷ on action.Name x ∷ es ++ on action.PlaceAtom q ∷ [] →
      SpellsExpr events (One form.Element at x e)
  has : {events : List Event} {at x : ℕ} (q : ℕ) (es : List Event) {e : RawExpr} → SpellsExpr es e →
      events ≡ on action.StartAtom at ∷ on action.Name x ∷ es ++ on action.HasAtom q ∷ [] →
      SpellsExpr events (One form.Has at x e)
  count : {events : List Event} {at x : ℕ} (q : ℕ) (es : List Event) {e : RawExpr} → SpellsExpr es e →
      events ≡ on action.StartAtom at ∷ on action.Name x ∷ es ++ on action.CountAtom q ∷ [] →
      SpellsExpr events (One form.Count at x e)
  item : {events : List Event} {at x : ℕ} (q : ℕ) (es gs : List Event) {e g : RawExpr} → SpellsExpr es e →
      SpellsExpr gs g →
      events ≡ on action.StartAtom at ∷ on action.Name x ∷ es ++ (gs ++ on action.AtAtom q ∷ []) →
      SpellsExpr events (Two form.Item at x e g)
  unary : {events : List Event} {at : ℕ} (q : ℕ) (es : List Event) {e : RawExpr} → SpellsExpr es e →
      events ≡ on action.Operator at ∷ es ++ on action.Unary q ∷ [] →
      SpellsExpr events (One form.Unary at at e)
  between : {events : List Event} {at : ℕ} (q : ℕ) (es gs : List Event) {e g : RawExpr} → SpellsExpr es e →
      SpellsExpr gs g →
      events ≡ es ++ on action.Operator at ∷ gs ++ on action.Binary q ∷ [] →
      SpellsExpr events (Infix at e g)

-- the events that spell the rest of a statement without a block, behind its start
pub data SpellsSimple : List Event → (f : RawForm) (name : ℕ) → List RawExpr → Type 0 where
  var : {events : List Event} {x : ℕ} (q : ℕ) (es : List Event) {e : RawExpr} → SpellsExpr es e →
      events ≡ on action.Name x ∷ es ++ on action.VarStatement q ∷ [] →
      SpellsSimple events form.Var x (e ∷ [])
  set_name : {events : List Event} {x : ℕ} (q : ℕ) (es : List Event) {e : RawExpr} → SpellsExpr es e →
      events ≡ on action.Name x ∷ es ++ on action.SetName q ∷ [] →
      SpellsSimple events form.SetName x (e ∷ [])
  set_place : {events : List Event} {x : ℕ} (q : ℕ) (es gs : List Event) {e g : RawExpr} → SpellsExpr es e →
      SpellsExpr gs g →
      events ≡ on action.Name x ∷ es ++ (gs ++ on action.SetPlace q ∷ []) →
      SpellsSimple events form.SetPlace x (e ∷ g ∷ [])
  set_try_add : {events : List Event} {x : ℕ} (y q : ℕ) (es gs : List Event) {e g : RawExpr} → SpellsExpr es e →
      SpellsExpr gs g →
      events ≡ on action.Name y ∷ on action.Name x ∷ es ++ (gs ++ on action.SetTryAdd q ∷ []) →
      SpellsSimple events form.SetTryAdd x (e ∷ g ∷ [])
  set_remove : {events : List Event} {x : ℕ} (y q : ℕ) (es : List Event) {e : RawExpr} → SpellsExpr es e →
      events ≡ on action.Name y ∷ on action.Name x ∷ es ++ on action.SetRemove q ∷ [] →
      SpellsSimple events form.SetRemove x (e ∷ [])
  add_item : {events : List Event} {x : ℕ} (q : ℕ) (es : List Event) {e : RawExpr} → SpellsExpr es e →
      events ≡ on action.Name x ∷ es ++ on action.AddItem q ∷ [] →
      SpellsSimple events form.AddItem x (e ∷ [])
  add_pair : {events : List Event} {x : ℕ} (q : ℕ) (es gs : List Event) {e g : RawExpr} → SpellsExpr es e →
      SpellsExpr gs g →
      events ≡ on action.Name x ∷ es ++ (gs ++ on action.AddPair q ∷ []) →
      SpellsSimple events form.AddPair x (e ∷ g ∷ [])
  remove : {events : List Event} {x : ℕ} (q : ℕ) (es : List Event) {e : RawExpr} → SpellsExpr es e →
      events ≡ on action.Name x ∷ es ++ on action.RemoveStatement q ∷ [] →
      SpellsSimple events form.Remove x (e ∷ [])
  clear : {events : List Event} {x : ℕ} (q : ℕ) →
      events ≡ on action.Name x ∷ on action.ClearStatement q ∷ [] →
      SpellsSimple events form.Clear x []
  write : {events : List Event} {x : ℕ} (q : ℕ) (es : List Event) {e : RawExpr} → SpellsExpr es e →
      events ≡ on action.Name x ∷ es ++ on action.WriteStatement q ∷ [] →
      SpellsSimple events form.Write x (e ∷ [])

-- the events that spell the head of a statement with one block, behind its start, where its last event is this one
pub data SpellsHead : List Event → Action → (f : RawForm) (at name : ℕ) → List RawExpr → Type 0 where
  begun : {events : List Event} {at x : ℕ} (q : ℕ) (es : List Event) {e : RawExpr} → SpellsExpr es e →
      events ≡ on action.Name x ∷ es ++ on action.BeginHead q ∷ [] →
      SpellsHead events action.BeginStatement form.Begin at x (e ∷ [])
  tested : {events : List Event} {at : ℕ} (q : ℕ) (es : List Event) {e : RawExpr} → SpellsExpr es e →
      events ≡ es ++ on action.IfHead q ∷ [] →
      SpellsHead events action.IfStatement form.If at at (e ∷ [])
  counted : {events : List Event} {at x : ℕ} (q : ℕ) (es gs : List Event) {e g : RawExpr} → SpellsExpr es e →
      SpellsExpr gs g →
      events ≡ on action.Name x ∷ es ++ (gs ++ on action.ForHead q ∷ []) →
      SpellsHead events action.ForStatement form.For at x (e ∷ g ∷ [])
  looped : {events : List Event} {at : ℕ} (q : ℕ) (es : List Event) {e : RawExpr} → SpellsExpr es e →
      events ≡ es ++ on action.WhileHead q ∷ [] →
      SpellsHead events action.WhileStatement form.While at at (e ∷ [])

-- the events that spell the statements of a block
pub data SpellsBlock : List Event → RawBlock → Type 0 where
  nothing : {events : List Event} →
      events ≡ [] →
      SpellsBlock events Nothing
  simple : {events : List Event} {at name : ℕ} {f : RawForm} {parts : List RawExpr}
      (es rest : List Event) {more : RawBlock} → SpellsSimple es f name parts → SpellsBlock rest more →
      events ≡ on action.StartStatement at ∷ es ++ rest →
      SpellsBlock events (Simple f at name parts more)
  nested : {events : List Event} {at name : ℕ} (o c q : ℕ) {f : RawForm} {end : Action} {parts : List RawExpr}
      (hs bs rest : List Event) {inner more : RawBlock} → SpellsHead hs end f at name parts → SpellsBlock bs inner →
      SpellsBlock rest more →
      events ≡ on action.StartStatement at ∷ hs ++ on action.OpenBlock o ∷ bs ++ on action.CloseBlock c ∷ on end q
      ∷ rest →
      SpellsBlock events (Nested f at name parts inner more)
  branched : {events : List Event} {at : ℕ} (h o c o' c' q : ℕ) {e : RawExpr}
      (es bs bs' rest : List Event) {first second more : RawBlock} → SpellsExpr es e → SpellsBlock bs first →
      SpellsBlock bs' second → SpellsBlock rest more →
      events ≡ on action.StartStatement at ∷ es ++ on action.IfHead h ∷ on action.OpenBlock o ∷ bs
      ++ on action.CloseBlock c ∷ on action.OpenBlock o' ∷ bs' ++ on action.CloseBlock c' ∷ on action.IfElseStatement q
      ∷ rest →
      SpellsBlock events (Branched at e first second more)

-- PARAMETERS

abbrev pub access_action : Access → Action
access_action Read = action.ReadParameter
access_action WriteOnly = action.WriteParameter
access_action Both = action.ReadWriteParameter

-- the events that spell what a parameter is, behind its name
pub data SpellsKind : List Event → RawParam → Type 0 where
  int : {events : List Event} {x : ℕ} (q : ℕ) →
      events ≡ on action.IntParameter q ∷ [] →
      SpellsKind events (record { name = x; kind = kind.Int; access = Read; word = x; width = None })
  array : {events : List Event} {x : ℕ} (q r : ℕ) (a : Access) →
      events ≡ on (access_action a) q ∷ on action.ArrayContainer r ∷ [] →
      SpellsKind events (record { name = x; kind = kind.Array; access = a; word = x; width = None })
  wide : {events : List Event} {x w n : ℕ} (q r : ℕ) (a : Access) →
      events ≡ on (access_action a) q ∷ on action.ArrayContainer r ∷ on action.Width w ∷ on action.Number n ∷ [] →
      SpellsKind events (record { name = x; kind = kind.Array; access = a; word = w; width = Some n })
  list : {events : List Event} {x : ℕ} (q r : ℕ) (a : Access) →
      events ≡ on (access_action a) q ∷ on action.ListContainer r ∷ [] →
      SpellsKind events (record { name = x; kind = kind.List; access = a; word = x; width = None })
  reference : {events : List Event} {x : ℕ} (q r : ℕ) (a : Access) →
      events ≡ on (access_action a) q ∷ on action.RefContainer r ∷ [] →
      SpellsKind events (record { name = x; kind = kind.Ref; access = a; word = x; width = None })
  map : {events : List Event} {x : ℕ} (q r : ℕ) (a : Access) →
      events ≡ on (access_action a) q ∷ on action.MapContainer r ∷ [] →
      SpellsKind events (record { name = x; kind = kind.Map; access = a; word = x; width = None })
  stream : {events : List Event} {x w : ℕ} (q : ℕ) (a : Access) →
      events ≡ on (access_action a) q ∷ on action.StreamContainer w ∷ [] →
      SpellsKind events (record { name = x; kind = kind.Stream; access = a; word = w; width = None })

-- the events that spell parameters
pub data SpellsParams : List Event → List RawParam → Type 0 where
  none : {events : List Event} →
      events ≡ [] →
      SpellsParams events []
  param : {events : List Event} (q : ℕ) (ks rest : List Event) {p : RawParam} {more : List RawParam} → SpellsKind ks p →
      SpellsParams rest more →
      events ≡ on action.Name p.name ∷ ks ++ on action.Parameter q ∷ rest →
      SpellsParams events (p ∷ more)

-- KERNELS

abbrev pub opening : Bool → Action
opening true = action.OpenParallel
opening false = action.OpenJob

-- these events spell a kernel of this raw form
pub record SpellsRaw (events : List Event) (raw : RawKernel) : Type 0 where
  pub at : ℕ
  pub body_at : ℕ
  pub end_at : ℕ
  pub params : List Event
  pub statements : List Event
  pub body : RawBlock
  pub spelled : events ≡ on (opening raw.parallel) at ∷ on action.Name raw.name
      ∷ params ++ on action.OpenBody body_at ∷ statements ++ on action.CloseKernel end_at ∷ []
  pub with_params : SpellsParams params raw.params.items
  pub with_statements : SpellsBlock statements body
  -- Later nodes say nothing of their own, since node MOST_NODES is a fault. They count among those that stand behind an
  -- earlier one, and in its depth.
  pub nodes : raw.nodes.items ≡ take MOST_KEPT (block_nodes None 0 body)
  pub depths : raw.depths.items ≡ kept_depths (take MOST_KEPT (depths_of (block_nodes None 0 body)))

-- every place that a raw kernel tells is one of its tokens
pub record IsWithin (raw : RawKernel) : Type 0 where
  pub name : raw.name < length (raw_tokens raw)
  pub params : (k : ℕ) (p : RawParam) → slice_get raw.params.items k ≡ Some p →
      (p.name < length (raw_tokens raw)) × (p.word < length (raw_tokens raw))
      × IfSome p.width (λ n. n < length (raw_tokens raw))
  pub nodes : (k : ℕ) (n : RawNode) → slice_get raw.nodes.items k ≡ Some n →
      (n.at < length (raw_tokens raw)) × (n.name < length (raw_tokens raw))

-- what reading a text gives: the raw form of a kernel, whose places are all among its tokens
pub record IsRaw (raw : RawKernel) : Type 0 where
  pub events : List Event
  pub spells : SpellsRaw events raw
  pub within : IsWithin raw

-- These events spell a kernel, whose places are below n, and which has at most n nodes.
pub record IsKernel (events : List Event) (n : ℕ) : Type 0 where
  pub parallel : Bool
  pub at : ℕ
  pub name : ℕ
  pub body_at : ℕ
  pub end_at : ℕ
  pub param_events : List Event
  pub statement_events : List Event
  pub params : List RawParam
  pub body : RawBlock
  pub spelled : events ≡ on (opening parallel) at ∷ on action.Name name
      ∷ param_events ++ on action.OpenBody body_at ∷ statement_events ++ on action.CloseKernel end_at ∷ []
  pub with_params : SpellsParams param_events params
  pub with_statements : SpellsBlock statement_events body
  pub name_below : name < n
  pub params_below : ParamsBelow n params
  pub body_below : BlockBelow n body
  pub few : block_size body ≤ n
