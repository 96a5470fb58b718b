-- Events spell one raw kernel, but for where its parts lie in memory.
use Rattle.std.proofs.Common.{◌≡◌, ℕ, ◌+◌, ◌<◌, Bool, true, false, List, [], ◌∷◌, ◌++◌, Option, Some, None, IfSome, take, refl, sym, ◌∙◌, ap, subst, arith}
use Rattle.frame_grammar.specs.declared.symbols.Action.{Action}
use Rattle.frame_grammar.specs.declared.symbols.Action.TheVariants as action
use Rattle.frame_grammar.specs.declared.symbols.Event.{Event}
use Rattle.kernel_raw.specs.declared.raw.RawParam.{RawParam}
use Rattle.kernel_raw.specs.declared.raw.RawKernel.{RawKernel}
use Rattle.kernel_raw.specs.declared.raw.TheConstants.{MOST_KEPT}
use Rattle.kernel_raw.specs.Depths.{depths_of, kept_depths}
use Rattle.kernel_raw.specs.Raw.{RawExpr, Leaf, One, Two, Infix, RawBlock, Nothing, Simple, Nested, Branched, ExprBelow, PartsBelow, BlockBelow, ParamsBelow, block_size, block_nodes}
use Rattle.kernel_raw.specs.RawEvents.{on, opening, SpellsParams, SpellsRaw, IsKernel}
use Rattle.kernel_raw.specs.Reading.{Reading, run, nothing_read, is_parallel}
use Rattle.kernel_raw.proofs.Derived.Meanings.{expr_up, parts_up, block_up, width_up, params_up}
use Rattle.kernel_raw.proofs.Reading.Kernels.{HasRead, reads_kernel}
use Rattle.script_text.specs.declared.source.Source.{Source}
use Rattle.frame_script.specs.Files.{IsRawOf}
use Rattle.text_laws.proofs.Raws.{parts_of}

-- SOME NUMBER IS ABOVE ALL PLACES

some_expr : (e : RawExpr) → (n : ℕ) × ExprBelow n e
some_expr (Leaf f at x) = (at + x + 1, (omega arith, omega arith))
some_expr (One f at x e) =
    let h = some_expr e in
    (at + x + 1 + h.0, (omega arith, omega arith, expr_up h.0 (at + x + 1 + h.0) e (omega arith) h.1))
some_expr (Two f at x e g) =
    let h = some_expr e in
    let k = some_expr g in
    let n = at + x + 1 + h.0 + k.0 in
    (n, (omega arith, omega arith, expr_up h.0 n e (omega arith) h.1, expr_up k.0 n g (omega arith) k.1))
some_expr (Infix at e g) =
    let h = some_expr e in
    let k = some_expr g in
    let n = at + 1 + h.0 + k.0 in
    (n, (omega arith, expr_up h.0 n e (omega arith) h.1, expr_up k.0 n g (omega arith) k.1))

some_parts : (parts : List RawExpr) → (n : ℕ) × PartsBelow n parts
some_parts [] = (0, tt)
some_parts (e ∷ more) =
    let h = some_expr e in
    let k = some_parts more in
    let n = h.0 + k.0 in
    (n, (expr_up h.0 n e (omega arith) h.1, parts_up k.0 n more (omega arith) k.1))

some_block : (b : RawBlock) → (n : ℕ) × BlockBelow n b
some_block Nothing = (0, tt)
some_block (Simple f at x parts more) =
    let p = some_parts parts in
    let m = some_block more in
    let n = at + x + 1 + p.0 + m.0 in
    (n, (omega arith, omega arith, parts_up p.0 n parts (omega arith) p.1, block_up m.0 n more (omega arith) m.1))
some_block (Nested f at x parts inner more) =
    let p = some_parts parts in
    let i = some_block inner in
    let m = some_block more in
    let n = at + x + 1 + p.0 + i.0 + m.0 in
    (n, (omega arith, omega arith, parts_up p.0 n parts (omega arith) p.1, block_up i.0 n inner (omega arith) i.1, block_up m.0 n more (omega arith) m.1))
some_block (Branched at e first second more) =
    let h = some_expr e in
    let i = some_block first in
    let j = some_block second in
    let m = some_block more in
    let n = at + 1 + h.0 + i.0 + j.0 + m.0 in (
      n,
      (
        omega arith,
        expr_up h.0 n e (omega arith) h.1,
        block_up i.0 n first (omega arith) i.1,
        block_up j.0 n second (omega arith) j.1,
        block_up m.0 n more
            (omega arith) m.1,
      ),
    )

some_width : (w : Option ℕ) → (n : ℕ) × IfSome w (λ x. x < n)
some_width None = (0, tt)
some_width (Some w) = (w + 1, omega arith)

some_params : (ps : List RawParam) → (n : ℕ) × ParamsBelow n ps
some_params [] = (0, tt)
some_params (p ∷ more) =
    let w = some_width p.width in
    let m = some_params more in
    let n = p.name + p.word + 1 + w.0 + m.0 in
    (n, (omega arith, omega arith, width_up w.0 n p.width (omega arith) w.1, params_up m.0 n more (omega arith) m.1))

-- THE RAW KERNEL

-- the events behind the name
abbrev pub behind : {events : List Event} {raw : RawKernel} → SpellsRaw events raw → List Event
behind s = s.params ++ on action.OpenBody s.body_at ∷ s.statements ++ on action.CloseKernel s.end_at ∷ []

-- what they are read as
read : {events : List Event} (raw : RawKernel) → (s : SpellsRaw events raw) → HasRead raw.params.items (block_nodes None 0 s.body) (behind s)
read {events} raw s =
    let p = some_params raw.params.items in
    let b = some_block s.body in
    let n = raw.name + 1 + p.0 + b.0 + block_size s.body in
    let k : IsKernel events n = record {
      parallel = raw.parallel;
      at = s.at;
      name = raw.name;
      body_at = s.body_at;
      end_at = s.end_at;
      param_events = s.params;
      statement_events = s.statements;
      params = raw.params.items;
      body = s.body;
      spelled = s.spelled;
      with_params = s.with_params;
      with_statements = s.with_statements;
      name_below = omega arith;
      params_below = params_up p.0 n raw.params.items (omega arith) p.1;
      body_below = block_up b.0 n s.body (omega arith) b.1;
      few = omega arith;
    } in
    reads_kernel k

parallel_is : (b : Bool) → is_parallel (opening b) ≡ b
parallel_is true = refl
parallel_is false = refl

abbrev first_action : List Event → Action
first_action [] = action.OpenJob
first_action (e ∷ es) = e.action

abbrev second_place : List Event → ℕ
second_place (e ∷ d ∷ es) = d.place
second_place _ = 0

abbrev without_two : List Event → List Event
without_two (e ∷ d ∷ es) = es
without_two _ = []

pub record RawOnce (r t : RawKernel) (body body' : RawBlock) : Type 0 where
  pub parallel : r.parallel ≡ t.parallel
  pub name : r.name ≡ t.name
  pub params : r.params.items ≡ t.params.items
  pub nodes : block_nodes None 0 body ≡ block_nodes None 0 body'

pub raw_once : (events : List Event) (r t : RawKernel) (s : SpellsRaw events r) (u : SpellsRaw events t) → RawOnce r t s.body u.body
raw_once events r t s u =
    let same = sym s.spelled ∙ u.spelled in
    let a = read r s in
    let b = read t u in
    let ends = sym a.is ∙ ap (λ es. run nothing_read (without_two es)) same ∙ b.is in
    record {
      parallel = sym (parallel_is r.parallel) ∙ ap (λ es. is_parallel (first_action es)) same ∙ parallel_is t.parallel;
      name = ap second_place same;
      params = ap (λ (x : Reading). x.params) ends;
      nodes = ap (λ (x : Reading). x.nodes) ends;
    }

-- two raw forms of one kernel of a file have the same parts
pub same_parts : (s : Source) (events : List Event) (r t : RawKernel) → IsRawOf s events r → IsRawOf s events t → parts_of r ≡ parts_of t
same_parts s events r t a b =
    let once = raw_once events r t a.spells b.spells in
    let source = a.source ∙ sym b.source in
    let marks = a.marks ∙ sym b.marks in
    let line = a.line ∙ sym b.line in
    let nodes = a.spells.nodes ∙ ap (take MOST_KEPT) once.nodes ∙ sym b.spells.nodes in
    let depths = a.spells.depths ∙ ap (λ ns. kept_depths (take MOST_KEPT (depths_of ns))) once.nodes ∙ sym b.spells.depths in
    λ i. record {
      source = source i;
      marks = marks i;
      line = line i;
      parallel = once.parallel i;
      name = once.name i;
      params = once.params i;
      nodes = nodes i;
      depths = depths i;
    }

-- the events spell the second one with the tree of the first
abbrev pub respelled : (events : List Event) (r t : RawKernel) → SpellsRaw events r → SpellsRaw events t → SpellsRaw events t
respelled events r t s u =
    let once = raw_once events r t s u in
    record {
      at = s.at;
      body_at = s.body_at;
      end_at = s.end_at;
      params = s.params;
      statements = s.statements;
      body = s.body;
      spelled = s.spelled ∙ (λ i. on (opening (once.parallel i)) s.at ∷ on action.Name (once.name i) ∷ behind s);
      with_params = subst (λ ps. SpellsParams s.params ps) once.params s.with_params;
      with_statements = s.with_statements;
      nodes = u.nodes ∙ ap (take MOST_KEPT) (sym once.nodes);
      depths = u.depths ∙ ap (λ ns. kept_depths (take MOST_KEPT (depths_of ns))) (sym once.nodes);
    }
