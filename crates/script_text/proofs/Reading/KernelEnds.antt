-- The first event that closes a kernel is its last.
use Rattle.std.proofs.Common.{◌≡◌, ℕ, suc, ◌+◌, ◌<◌, ◌≤◌, Bool, true, false, List, [], ◌∷◌, ◌++◌, length, length-append, drop, drop-cons, add-one, get_or, refl, sym, ◌∙◌, ap, subst, arith, append_assoc, if◌then◌else◌}
use Rattle.std.proofs.lemmas.List.{drop_all}
use Rattle.job_base.specs.declared.Access.{Access}
use Rattle.job_base.specs.declared.Access.TheVariants.{Read, Write as WriteOnly, Both}
use Rattle.frame_grammar.specs.declared.symbols.Action.{Action}
use Rattle.frame_grammar.specs.declared.symbols.Action.TheVariants as action
use Rattle.frame_grammar.specs.declared.symbols.Event.{Event}
use Rattle.kernel_raw.specs.declared.raw.RawParam.{RawParam}
use Rattle.kernel_raw.specs.Raw.{RawExpr, RawBlock}
use Rattle.kernel_raw.specs.RawEvents.{on, opening, access_action, SpellsExpr, number, index, name, size, element, has, count, item, unary, between, SpellsSimple, var, set_name, set_place, set_try_add, set_remove, add_item, add_pair, remove, clear, write, SpellsHead, begun, tested, counted, looped, SpellsBlock, nothing, simple, nested, branched, SpellsKind, int, array, wide, list, reference, map, stream, SpellsParams, none, param}
use Rattle.kernel_raw.specs.declared.raw.RawForm.{RawForm}
use Rattle.script_text.specs.Raw.{KernelForm}
use Rattle.script_text.specs.Events.{SpellsKernel, BeginsKernel}
use Rattle.script_text.specs.Reading.{closes, len_to_close}

-- none of the events closes a kernel
abbrev pub StaysOpen : List Event → Type 0
StaysOpen [] = Unit {0}
StaysOpen (e ∷ es) = (closes e.action ≡ false) × StaysOpen es

pub open-append : (es es' : List Event) → StaysOpen es → StaysOpen es' → StaysOpen (es ++ es')
open-append [] es' h h' = h'
open-append (e ∷ es) es' h h' = (h.0, open-append es es' h.1 h')

same : (es es' : List Event) → es ≡ es' → StaysOpen es' → StaysOpen es
same es es' e h = subst StaysOpen (sym e) h

-- with one event behind them
with_last : (es : List Event) (e : Event) → closes e.action ≡ false → StaysOpen es → StaysOpen (es ++ e ∷ [])
with_last es e h open' = open-append es (e ∷ []) open' (h, tt)

open_expr : {events : List Event} {e : RawExpr} → SpellsExpr events e → StaysOpen events
open_expr {events} (number {at = at} q e) = same events (on action.Number at ∷ on action.NumberAtom q ∷ []) e (refl, (refl, tt))
open_expr {events} (index {at = at} q e) = same events (on action.StartAtom at ∷ on action.IndexAtom q ∷ []) e (refl, (refl, tt))
open_expr {events} (name {at = at} {x = x} q e) = same events (on action.StartAtom at ∷ on action.Name x ∷ on action.NameAtom q ∷ []) e
    (refl, (refl, (refl, tt)))
open_expr {events} (size {at = at} {x = x} q e) = same events (on action.StartAtom at ∷ on action.Name x ∷ on action.LenAtom q ∷ []) e
    (refl, (refl, (refl, tt)))
open_expr {events} (element {at = at} {x = x} q es s e) =
    same events (on action.StartAtom at ∷ on action.Name x ∷ es ++ on action.PlaceAtom q ∷ []) e
    (refl, (refl, with_last es (on action.PlaceAtom q) refl (open_expr s)))
open_expr {events} (has {at = at} {x = x} q es s e) =
    same events (on action.StartAtom at ∷ on action.Name x ∷ es ++ on action.HasAtom q ∷ []) e
    (refl, (refl, with_last es (on action.HasAtom q) refl (open_expr s)))
open_expr {events} (count {at = at} {x = x} q es s e) =
    same events (on action.StartAtom at ∷ on action.Name x ∷ es ++ on action.CountAtom q ∷ []) e
    (refl, (refl, with_last es (on action.CountAtom q) refl (open_expr s)))
open_expr {events} (item {at = at} {x = x} q es gs s t e) =
    same events (on action.StartAtom at ∷ on action.Name x ∷ es ++ (gs ++ on action.AtAtom q ∷ [])) e
    (refl, (refl, open-append es (gs ++ on action.AtAtom q ∷ []) (open_expr s) (with_last gs (on action.AtAtom q) refl (open_expr t))))
open_expr {events} (unary {at = at} q es s e) =
    same events (on action.Operator at ∷ es ++ on action.Unary q ∷ []) e (refl, with_last es (on action.Unary q) refl (open_expr s))
open_expr {events} (between {at = at} q es gs s t e) =
    same events (es ++ on action.Operator at ∷ gs ++ on action.Binary q ∷ []) e
    (with_last (es ++ on action.Operator at ∷ gs) (on action.Binary q) refl (open-append es (on action.Operator at ∷ gs) (open_expr s) (refl, open_expr t)))

-- an event, an expression or two, and an event
after_name : (x : Event) (es : List Event) (q : Event) → closes x.action ≡ false → closes q.action ≡ false → StaysOpen es → StaysOpen (x ∷ es ++ q ∷ [])
after_name x es q h h' open' = (h, with_last es q h' open')

after_name_two : (x : Event) (es gs : List Event) (q : Event) → closes x.action ≡ false → closes q.action ≡ false → StaysOpen es → StaysOpen gs
    → StaysOpen (x ∷ es ++ (gs ++ q ∷ []))
after_name_two x es gs q h h' open' open'' = (h, open-append es (gs ++ q ∷ []) open' (with_last gs q h' open''))

open_simple : {events : List Event} {f : RawForm} {x : ℕ} {parts : List RawExpr} → SpellsSimple events f x parts → StaysOpen events
open_simple {events} (var {x = x} q es s e) = same events (on action.Name x ∷ es ++ on action.VarStatement q ∷ []) e
    (after_name (on action.Name x) es (on action.VarStatement q) refl refl (open_expr s))
open_simple {events} (set_name {x = x} q es s e) = same events (on action.Name x ∷ es ++ on action.SetName q ∷ []) e
    (after_name (on action.Name x) es (on action.SetName q) refl refl (open_expr s))
open_simple {events} (set_place {x = x} q es gs s t e) =
    same events (on action.Name x ∷ es ++ (gs ++ on action.SetPlace q ∷ [])) e
    (after_name_two (on action.Name x) es gs (on action.SetPlace q) refl refl (open_expr s) (open_expr t))
open_simple {events} (set_try_add {x = x} y q es gs s t e) =
    same events (on action.Name y ∷ on action.Name x ∷ es ++ (gs ++ on action.SetTryAdd q ∷ [])) e
    (refl, after_name_two (on action.Name x) es gs (on action.SetTryAdd q) refl refl (open_expr s) (open_expr t))
open_simple {events} (set_remove {x = x} y q es s e) =
    same events (on action.Name y ∷ on action.Name x ∷ es ++ on action.SetRemove q ∷ []) e
    (refl, after_name (on action.Name x) es (on action.SetRemove q) refl refl (open_expr s))
open_simple {events} (add_item {x = x} q es s e) = same events (on action.Name x ∷ es ++ on action.AddItem q ∷ []) e
    (after_name (on action.Name x) es (on action.AddItem q) refl refl (open_expr s))
open_simple {events} (add_pair {x = x} q es gs s t e) =
    same events (on action.Name x ∷ es ++ (gs ++ on action.AddPair q ∷ [])) e
    (after_name_two (on action.Name x) es gs (on action.AddPair q) refl refl (open_expr s) (open_expr t))
open_simple {events} (remove {x = x} q es s e) = same events (on action.Name x ∷ es ++ on action.RemoveStatement q ∷ []) e
    (after_name (on action.Name x) es (on action.RemoveStatement q) refl refl (open_expr s))
open_simple {events} (clear {x = x} q e) = same events (on action.Name x ∷ on action.ClearStatement q ∷ []) e (refl, (refl, tt))
open_simple {events} (write {x = x} q es s e) = same events (on action.Name x ∷ es ++ on action.WriteStatement q ∷ []) e
    (after_name (on action.Name x) es (on action.WriteStatement q) refl refl (open_expr s))

-- what ends a statement with one block closes no kernel either
open_head : {events : List Event} {end : Action} {f : RawForm} {at x : ℕ} {parts : List RawExpr} → SpellsHead events end f at x parts
    → StaysOpen events × (closes end ≡ false)
open_head {events} (begun {x = x} q es s e) = (
  same events (on action.Name x ∷ es ++ on action.BeginHead q ∷ []) e
      (after_name (on action.Name x) es (on action.BeginHead q) refl refl (open_expr s)),
  refl,
)
open_head {events} (tested q es s e) = (same events (es ++ on action.IfHead q ∷ []) e (with_last es (on action.IfHead q) refl (open_expr s)), refl)
open_head {events} (counted {x = x} q es gs s t e) = (
  same events (on action.Name x ∷ es ++ (gs ++ on action.ForHead q ∷ [])) e
      (after_name_two (on action.Name x) es gs (on action.ForHead q) refl refl (open_expr s) (open_expr t)),
  refl,
)
open_head {events} (looped q es s e) = (same events (es ++ on action.WhileHead q ∷ []) e (with_last es (on action.WhileHead q) refl (open_expr s)), refl)

open_block : {events : List Event} {b : RawBlock} → SpellsBlock events b → StaysOpen events
open_block {events} (nothing e) = same events [] e tt
open_block {events} (simple {at = at} es rest s more e) = same events (on action.StartStatement at ∷ es ++ rest) e
    (refl, open-append es rest (open_simple s) (open_block more))
open_block {events} (nested {at = at} o c q {end = end} hs bs rest h b more e) =
    let head = open_head h in
    same events (on action.StartStatement at ∷ hs ++ on action.OpenBlock o ∷ bs ++ on action.CloseBlock c ∷ on end q ∷ rest) e (
      refl,
      open-append (hs ++ on action.OpenBlock o ∷ bs) (on action.CloseBlock c ∷ on end q ∷ rest)
          (open-append hs (on action.OpenBlock o ∷ bs) head.0 (refl, open_block b)) (refl, (head.1, open_block more)),
    )
open_block {events} (branched {at = at} h o c o' c' q es bs bs' rest s b b' more e) =
    same events (on action.StartStatement at ∷ es ++ on action.IfHead h ∷ on action.OpenBlock o ∷ bs ++ on action.CloseBlock c ∷ on action.OpenBlock o' ∷ bs'
    ++ on action.CloseBlock c' ∷ on action.IfElseStatement q ∷ rest) e (
      refl,
      open-append (es ++ on action.IfHead h ∷ on action.OpenBlock o ∷ bs ++ on action.CloseBlock c ∷ on action.OpenBlock o' ∷ bs')
          (on action.CloseBlock c' ∷ on action.IfElseStatement q ∷ rest)
          (open-append (es ++ on action.IfHead h ∷ on action.OpenBlock o ∷ bs) (on action.CloseBlock c ∷ on action.OpenBlock o' ∷ bs')
          (open-append es (on action.IfHead h ∷ on action.OpenBlock o ∷ bs) (open_expr s) (refl, (refl, open_block b))) (refl, (refl, open_block b')))
          (refl, (refl, open_block more)),
    )

open_access : (a : Access) → closes (access_action a) ≡ false
open_access Read = refl
open_access WriteOnly = refl
open_access Both = refl

open_kind : {events : List Event} {p : RawParam} → SpellsKind events p → StaysOpen events
open_kind {events} (int q e) = same events (on action.IntParameter q ∷ []) e (refl, tt)
open_kind {events} (array q r a e) = same events (on (access_action a) q ∷ on action.ArrayContainer r ∷ []) e (open_access a, (refl, tt))
open_kind {events} (wide {w = w} {n = n} q r a e) = same events (on (access_action a) q ∷ on action.ArrayContainer r ∷ on action.Width w ∷ on action.Number n
    ∷ []) e (open_access a, (refl, (refl, (refl, tt))))
open_kind {events} (list q r a e) = same events (on (access_action a) q ∷ on action.ListContainer r ∷ []) e (open_access a, (refl, tt))
open_kind {events} (reference q r a e) = same events (on (access_action a) q ∷ on action.RefContainer r ∷ []) e (open_access a, (refl, tt))
open_kind {events} (map q r a e) = same events (on (access_action a) q ∷ on action.MapContainer r ∷ []) e (open_access a, (refl, tt))
open_kind {events} (stream {w = w} q a e) = same events (on (access_action a) q ∷ on action.StreamContainer w ∷ []) e (open_access a, (refl, tt))

open_params : {events : List Event} {ps : List RawParam} → SpellsParams events ps → StaysOpen events
open_params {events} (none e) = same events [] e tt
open_params {events} (param q ks rest {p} k more e) =
    same events (on action.Name p.name ∷ ks ++ on action.Parameter q ∷ rest) e
    (refl, open-append ks (on action.Parameter q ∷ rest) (open_kind k) (refl, open_params more))

open_opening : (b : Bool) → closes (opening b) ≡ false
open_opening true = refl
open_opening false = refl

-- the events of a kernel: those that close none, and one that does
pub record Closed (events : List Event) : Type 0 where
  pub front : List Event
  pub at : ℕ
  pub open_front : StaysOpen front
  pub events_are : events ≡ front ++ on action.CloseKernel at ∷ []

pub kernel_closed : {events : List Event} {k : KernelForm} → SpellsKernel events k → Closed events
kernel_closed {events} {k} s = record {
  front = on (opening k.parallel) s.at ∷ on action.Name k.name ∷ s.params ++ on action.OpenBody s.body_at ∷ s.statements;
  at = s.end_at;
  open_front = (
    open_opening k.parallel,
    (
      refl,
      open-append s.params (on action.OpenBody s.body_at ∷ s.statements) (open_params s.with_params)
          (refl, open_block s.with_statements),
    ),
  );
  events_are = s.spelled;
}

-- so the first that closes one ends them
len_closed : (front rest : List Event) (at : ℕ) → StaysOpen front → len_to_close (front ++ on action.CloseKernel at ∷ rest) ≡ length front + 1
len_closed [] rest at open' = omega arith
len_closed (e ∷ front) rest at open' =
    ap (λ b. if b then 1 else len_to_close (front ++ on action.CloseKernel at ∷ rest) + 1) open'.0
    ∙ ap (λ n. n + 1) (len_closed front rest at open'.1)
    ∙ next (length front)
  where
    next : (n : ℕ) → n + 1 + 1 ≡ suc n + 1
    next n = omega arith

pub kernel_ends : (all : List Event) (k : BeginsKernel all) → len_to_close all ≡ length k.events
kernel_ends all k =
    let c = kernel_closed k.spells in
    ap len_to_close (k.all_are ∙ ap (λ x. x ++ k.rest) c.events_are ∙ append_assoc c.front (on action.CloseKernel c.at ∷ []) k.rest)
    ∙ len_closed c.front k.rest c.at c.open_front
    ∙ sym (ap length c.events_are ∙ length-append c.front (on action.CloseKernel c.at ∷ []))

-- one event more
pub open_step : (all : List Event) (i : ℕ) (d : Event) → i < length all → closes (get_or all i d).action ≡ false
    → i + len_to_close (drop i all) ≡ len_to_close all →
    i + 1 + len_to_close (drop (i + 1) all) ≡ len_to_close all
open_step all i d within open' sum =
    let more = len_to_close (drop (suc i) all) in
    let one : len_to_close (drop i all) ≡ more + 1 = ap len_to_close (drop-cons all i d within) ∙ ap (λ b. if b then 1 else more + 1) open' in
    rw add-one (let goal : suc i + more ≡ len_to_close all = omega arith in goal)

pub closed_step : (all : List Event) (i : ℕ) (d : Event) → i < length all → closes (get_or all i d).action ≡ true
    → i + len_to_close (drop i all) ≡ len_to_close all →
    i + 1 ≡ len_to_close all
closed_step all i d within closed sum =
    let one : len_to_close (drop i all) ≡ 1 = ap len_to_close (drop-cons all i d within)
    ∙ ap (λ b. if b then 1 else len_to_close (drop (suc i) all) + 1) closed in
    omega arith

-- A kernel doesn't run out before it ends.
pub never_open : (all : List Event) (i : ℕ) (k : BeginsKernel all) → length all ≤ i → i + len_to_close (drop i all) ≡ len_to_close all → ⊥
never_open all i k out sum =
    let last : len_to_close (drop i all) ≡ 1 = ap len_to_close (drop_all i all out) in
    let ends : len_to_close all ≡ length k.events = kernel_ends all k in
    let whole : length all ≡ length k.events + length k.rest = ap length k.all_are ∙ length-append k.events k.rest in
    omega arith
