-- One access of a container, refused or not, is one operation of the plan.
use Rattle.std.proofs.Common.{◌≡◌, ℕ, ◌+◌, ◌<◌, ◌^◌, Bool, true, false, if◌then◌else◌, List, [], ◌∷◌, ◌++◌, Option, Some, None, Result, Ok, Err, refl, sym, ap, subst, ◌∙◌, arith, append-nil}
use Rattle.std.proofs.lemmas.Bool.{or_left, or_right}
use Rattle.job_base.specs.declared.Refusal.{Refusal}
use Rattle.job_base.specs.declared.Trap.{Trap}
use Rattle.frame_ast.specs.declared.name_kind.NameKind.{NameKind}
use Rattle.frame_ast.specs.declared.script.Order.{Order}
use Rattle.frame_ast.specs.declared.script.Statement.{Statement}
use Rattle.frame_ast.specs.Accepted.{kind_in}
use Rattle.frame_ast.specs.Checks.{refusal}
use Rattle.frame_ast.specs.Contents.{Contents, Cells as Elements, Single, Items, Pairs, Entries}
use Rattle.frame_ast.specs.Effects.{list_broken, views_broken, breaks_views, broken_by, changed, lost, effect}
use Rattle.frame_ast.specs.Jobs.{nobody}
use Rattle.frame_ast.specs.Laws.{IsKnown}
use Rattle.frame_ast.specs.Lists.{first_some}
use Rattle.frame_ast.specs.Orders.{Setting, name_text}
use Rattle.frame_ast.specs.Refusals.{Refused, refusal_of, unchanged, access, disposed, stale, pending}
use Rattle.frame_ast.specs.Schedules.{need_of}
use Rattle.frame_ast.specs.Scripts.{act, act_or_pass, decided}
use Rattle.frame_ast.specs.States.{ScriptState, Value, container_at, contents_at, with_contents}
use Rattle.frame_ast.specs.Texts.{refused_line}
use Rattle.kernel_exec.specs.declared.binds.Bind.{Bind}
use Rattle.kernel_exec.specs.Binds.{end_of}
use Rattle.kernel_exec.specs.Layout.{Holds}
use Rattle.merge_laws.specs.Graph.{Cells}
use Rattle.frame_core.specs.declared.plan.Act.{Act}
use Rattle.frame_core.specs.declared.plan.Op.{Op}
use Rattle.frame_core.specs.declared.plan.Plan.{Plan}
use Rattle.frame_core.specs.Names.{name_of}
use Rattle.frame_core.specs.Touches as touch
use Rattle.frame_core.specs.Touches.{reads_in, act_touches, whole}
use Rattle.frame_core.specs.Operations.{act_cells, cells_or, refused_by, act_answer, op_cells, op_answer, one_if_refused}
use Rattle.frame_core.specs.Output.{accepted_line, answer_line, op_line}
use Rattle.frame_core.specs.Ordered.{ActFits, ActStands, OpFits, StandsIn}
use Rattle.frame_core.proofs.Extents.Touching.{it_has}
use Rattle.plan_laws.specs.Accessing.{kind_seen, IsWritable, IsPlannedBy}
use Rattle.plan_laws.specs.Binds.{bind_of, bind_for, bind_at, start_at}
use Rattle.plan_laws.specs.Changing.{TouchesOne}
use Rattle.plan_laws.specs.Disposing.{IsSameTo}
use Rattle.plan_laws.specs.Drafts.{Draft, cells_of}
use Rattle.plan_laws.specs.Planned.{Outline, IsPlanned, Adds}
use Rattle.plan_laws.proofs.Statements.AccessingWords.{Leaves, LeavesAs, Does}
use Rattle.plan_laws.proofs.Statements.Changing.{changes_are_planned}
use Rattle.plan_laws.proofs.Statements.Disposing.{others_are_planned}
use Rattle.plan_laws.proofs.Statements.Making.{at_here, at_other, alive_is_live}
use Rattle.plan_laws.proofs.Owners.{word_has}
use Rattle.plan_laws.proofs.Statements.Printing.{IsSeen, seen_by, seen, seen_holds, IsWithin, seen_within, IsAllowed, allowed, conflict_completed, alive_at, or_none}

-- WHAT AN ACCESS IS REFUSED FOR, where nothing blocks it: for what its change would trap of

first_of_more : (a b p : Option Refused) (more : List (Option Refused)) → first_some (a ∷ b ∷ p ∷ []) ≡ None → first_some (a ∷ b ∷ p ∷ more) ≡ first_some more
unfolding first_some
first_of_more (Some r) b p more e = absurd cc
first_of_more None (Some r) p more e = absurd cc
first_of_more None None (Some r) more e = absurd cc
first_of_more None None None more e = refl

first_alone : (o : Option Refused) → first_some (o ∷ []) ≡ o
unfolding first_some
first_alone None = refl
first_alone (Some r) = refl

pub unblocked_is : (s : ScriptState) (name : ℕ) (p : Option Refused) → access s name (need_of s name true) [] ≡ None
    → access s name (need_of s name true) (p ∷ []) ≡ p
unblocked_is s name p e =
    first_of_more (disposed s (name ∷ [])) (stale s (name ∷ [])) (pending s nobody (need_of s name true ∷ [])) (p ∷ []) e ∙ first_alone p

-- THE STATE AFTERWARDS, but for the views of lists

pub broken_same : (k : Contents) (c : ℕ) (s : ScriptState) → IsSameTo s (list_broken k c s)
broken_same (Elements xs) c s = record {
  made = refl;
  contents = refl;
  alive = refl;
  uses = refl;
  range = refl;
  book = refl;
  traps = refl;
  refused = refl;
  lines = refl;
}
broken_same (Single z) c s = record {
  made = refl;
  contents = refl;
  alive = refl;
  uses = refl;
  range = refl;
  book = refl;
  traps = refl;
  refused = refl;
  lines = refl;
}
broken_same (Items cap xs) c s = record {
  made = refl;
  contents = refl;
  alive = refl;
  uses = refl;
  range = refl;
  book = refl;
  traps = refl;
  refused = refl;
  lines = refl;
}
broken_same (Pairs cap ps) c s = record {
  made = refl;
  contents = refl;
  alive = refl;
  uses = refl;
  range = refl;
  book = refl;
  traps = refl;
  refused = refl;
  lines = refl;
}
broken_same (Entries room es) c s = record {
  made = refl;
  contents = refl;
  alive = refl;
  uses = refl;
  range = refl;
  book = refl;
  traps = refl;
  refused = refl;
  lines = refl;
}

pub itself_same : (s : ScriptState) → IsSameTo s s
itself_same s = record { made = refl; contents = refl; alive = refl; uses = refl; range = refl; book = refl; traps = refl; refused = refl; lines = refl }

pub broken_by_same : (cause : Refusal) (name : ℕ) (s : ScriptState) → IsSameTo s (broken_by cause name s)
broken_by_same cause name s = by (breaks_views cause)
  where
    by : (b : Bool) → IsSameTo s (if b then views_broken name s else s)
    by true = broken_same (contents_at s name) (container_at s name) s
    by false = itself_same s

module _ (g : Setting) (s : ScriptState) (st : Statement) (name : ℕ) where
  -- changed contents, or one refused statement more
  abbrev stepped : Result Contents Trap → ScriptState
  stepped (Ok d) = with_contents (container_at s name) d s
  stepped (Err u) = record s { refused = s.refused + 1; lines = s.lines ++ refused_line st.line (refusal_of u) (name_text g name) }

  stepped_same : (p : Result Contents Trap) (after : ScriptState → ScriptState) → effect g st.line s st.act ≡ after (changed name p s)
      → ((t : ScriptState) → IsSameTo t (after t)) → ((cause : Refusal) → IsSameTo s (lost cause st.act s))
      → IsSameTo (stepped p) (decided (unchanged name p) g s st)
  stepped_same (Ok d) after e same gone = subst (IsSameTo (stepped (Ok d))) (sym e) (same (stepped (Ok d)))
  stepped_same (Err u) after e same gone =
      let h = gone (refusal_of u) in
      record {
        made = h.made;
        contents = h.contents;
        alive = h.alive;
        uses = h.uses;
        range = h.range;
        book = h.book;
        traps = h.traps;
        refused = refl;
        lines = refl;
      }

-- A STATEMENT THAT IS ONE ACCESS: what it does to contents, and what its operation does to words

pub record IsOneAccess (kinds : List NameKind) (statement : ℕ → Order) (operation : Bind → Act) (MayBe : Bind → Type 0)
    (words : Bind → Cells → Result Cells Trap)
    (change : Value → Contents → Result Contents Trap) (after : ℕ → ScriptState → ScriptState) : Type 0 where
  -- both do the same, through a name of these kinds
  pub does : (start : ℕ) (old : Cells) (v : Value) (c : Contents) → IsSeen v c → kind_in (kind_seen v c) kinds ≡ true → end_of (bind_for v start c) < 2 ^ 32
      → Holds old (bind_of start c) c
      → Does start old MayBe v c (words (bind_for v start c) old) (change v c)
  -- the operation writes the bind's words, and has no line of its own
  pub touches : (b : Bind) → act_touches (operation b) ≡ whole b true ∷ []
  pub runs : (plan : Plan) (b : Bind) (cells : Cells) → act_cells plan (operation b) cells ≡ words b cells
  pub answers : (b : Bind) (r : Result Cells Trap) → act_answer (operation b) r ≡ refused_by r
  pub quiet : (b : Bind) (cells : Cells) (line : ℕ) (name : List ℕ) → accepted_line line name (operation b) cells ≡ []
  pub fits : (plan : Plan) (b : Bind) → StandsIn plan b → MayBe b → ActFits plan (operation b)
  pub stands : (b : Bind) (cells : Cells) (c : Contents) → Holds cells b c → ActStands (operation b) cells
  -- the statement is refused where its change would trap, and keeps all but views
  pub refuses : (g : Setting) (s : ScriptState) (name : ℕ) → access s name (need_of s name true) [] ≡ None
      → refusal g s (statement name) ≡ unchanged name (change (s.values name) (contents_at s name))
  pub changes : (g : Setting) (s : ScriptState) (line name : ℕ) → effect g line s (statement name) ≡ after name
      (changed name (change (s.values name) (contents_at s name)) s)
  pub same : (name : ℕ) (t : ScriptState) → IsSameTo t (after name t)
  pub keeps : (cause : Refusal) (s : ScriptState) (name : ℕ) → IsSameTo s (lost cause (statement name) s)

module _ (x : Outline) (g : Setting) (s : ScriptState) (st : Statement) (name : ℕ) (kinds : List NameKind) (d : Draft)
    (small : x.plan.cells < 2 ^ 32) (known : IsKnown s) (was : IsPlanned x s d) (w : IsWritable x g s name kinds) where
  abbrev c : ℕ
  c = container_at s name

  abbrev b : Bind
  b = bind_at x.starts s name

  abbrev start : ℕ
  start = start_at x.starts s name

  abbrev held : Contents
  held = contents_at s name

  abbrev cells : Cells
  cells = cells_of x.plan d

  is_seen : IsSeen (s.values name) held
  is_seen = seen_by (s.values name) held w.usable.fits

  is_within : IsWithin (s.values name) start held
  is_within = seen_within (s.values name) start held is_seen

  is_allowed : IsAllowed s name true
  is_allowed = allowed s name true w.unblocked

  is_alive : s.alive c ≡ true
  is_alive = alive_at s (s.values name) is_allowed.alive

  is_held : Holds cells (bind_of start held) held
  is_held = was.standing.contents c w.usable.below is_alive

  stands_in : StandsIn x.plan b
  stands_in =
      let in_plan = was.standing.within c (alive_is_live s c w.usable.below is_alive) in
      let end = is_within.end in
      (omega arith, is_within.own)

  is_small : end_of b < 2 ^ 32
  is_small = let le = stands_in.0 in omega arith

  module _ (statement : ℕ → Order) (operation : Bind → Act) (MayBe : Bind → Type 0) (words : Bind → Cells → Result Cells Trap)
      (change : Value → Contents → Result Contents Trap) (after : ℕ → ScriptState → ScriptState)
      (it : IsOneAccess kinds statement operation MayBe words change after) (e : Draft)
      (add : Adds d e (record { line = st.line; name = name; act = operation (bind_at x.starts s name) } ∷ [])) where
    abbrev op : Op
    op = record { line = st.line; name = name; act = operation b }

    abbrev text : List ℕ
    text = name_of x.plan name

    abbrev p : Result Contents Trap
    p = change (s.values name) held

    does_here : Does start cells MayBe (s.values name) held (words b cells) p
    does_here = it.does start cells (s.values name) held is_seen w.kind is_small is_held

    fits_here : OpFits x.plan op
    fits_here = record { name = w.below; act = it.fits x.plan b stands_in does_here.0 }

    stands_here : ActStands op.act cells
    stands_here = it.stands b cells (seen (s.values name) held) (seen_holds (s.values name) start cells held is_seen is_held)

    touches_one : TouchesOne x s op c
    touches_one = record {
      reads = λ v u.
          let h = it_has (whole b true) v (or_none (touch.has_word (whole b true) v) (sym (ap (λ t. reads_in t v) (it.touches b)) ∙ u)) in
          let lo = h.0 in
          let hi = h.1 in
          let from = is_within.from in
          let end = is_within.end in
          word_has x.starts s c v (record { from = omega arith; below = omega arith });
      unread = λ j u. conflict_completed s name true known is_allowed j (or_left ((s.uses c).writers j) ((s.uses c).users j) u) ((known.uses c).writers j u);
      unwritten = λ v j u used. conflict_completed s name true known is_allowed j (or_right ((s.uses c).writers j) ((s.uses c).users j) used) used;
    }

    -- where the words come to a result
    module _ (r : Result Cells Trap) (result : words b cells ≡ r) where
      answered : op_answer x.plan op cells ≡ refused_by r
      unfolding op_answer
      answered = ap (act_answer op.act) (it.runs x.plan b cells ∙ result) ∙ it.answers b r

      line_is : op_line x.plan op cells ≡ answer_line st.line text op.act cells (refused_by r)
      unfolding op_line
      line_is = ap (answer_line st.line text op.act cells) answered

      cells_are : op_cells x.plan op cells ≡ cells_or cells r
      unfolding op_cells
      cells_are = ap (cells_or cells) (it.runs x.plan b cells ∙ result)

    done : (new : Cells) (k : Contents) → words b cells ≡ Ok new → Leaves start held new k → IsPlanned x (with_contents c k s) e
    done new k result l =
        let count : one_if_refused (op_answer x.plan op cells) ≡ 0 = ap one_if_refused (answered (Ok new) result) in
        let here = at_here s.contents c k in
        changes_are_planned x small s (with_contents c k s) c op d e was w.usable.below is_alive
        (record {
          made = refl;
          alive = refl;
          uses = refl;
          range = refl;
          book = refl;
          others = λ j ne. at_other s.contents c k j ne;
          form = λ n. ap (bind_of n) here ∙ l.form n;
        })
        touches_one fits_here stands_here
        (subst (λ k. Holds (op_cells x.plan op cells) (bind_of start k) k) (sym here)
        (subst (λ cells. Holds cells (bind_of start k) k) (sym (cells_are (Ok new) result)) l.holds))
        (record {
          lines = sym (append-nil s.lines) ∙ ap (λ l. s.lines ++ l) (sym (line_is (Ok new) result ∙ it.quiet b cells st.line text));
          refused = omega arith;
          traps = refl;
        })
        add

    not_done : (t : Trap) → words b cells ≡ Err t → IsPlanned x (stepped g s st name (Err t)) e
    not_done t result =
        let count : one_if_refused (op_answer x.plan op cells) ≡ 1 = ap one_if_refused (answered (Err t) result) in
        changes_are_planned x small s (stepped g s st name (Err t)) c op d e was w.usable.below is_alive
        (record { made = refl; alive = refl; uses = refl; range = refl; book = refl; others = λ j ne. refl; form = λ n. refl })
        touches_one fits_here stands_here
        (subst (λ cells. Holds cells (bind_of start held) held) (sym (cells_are (Err t) result)) is_held)
        (record {
          lines = ap (λ n. s.lines ++ refused_line st.line (refusal_of t) n) (sym w.named) ∙ ap (λ l. s.lines ++ l) (sym (line_is (Err t) result));
          refused = omega arith;
          traps = refl;
        })
        add

    step : (r : Result Cells Trap) (q : Result Contents Trap) → words b cells ≡ r → LeavesAs start held r q → IsPlanned x (stepped g s st name q) e
    step (Ok new) (Ok k) result l = done new k result l
    step (Ok new) (Err u) result l = absurd l
    step (Err t) (Ok k) result l = absurd l
    step (Err t) (Err u) result l = not_done u (result ∙ ap Err l)

    statement_planned : s.passing ≡ 0 → st.act ≡ statement name → IsPlanned x (act g s st) e
    statement_planned pass is =
        let unblocked = ap (refusal g s) is ∙ it.refuses g s name w.unblocked in
        let acts : act g s st ≡ decided (unchanged name p) g s st = ap (λ n. act_or_pass n g s st) pass ∙ ap (λ o. decided o g s st) unblocked in
        let same = stepped_same g s st name p (after name) (ap (effect g st.line s) is ∙ it.changes g s st.line name) (it.same name)
        (subst (λ o. (cause : Refusal) → IsSameTo s (lost cause o s)) (sym is) (λ cause. it.keeps cause s name)) in
        subst (λ t. IsPlanned x t e) (sym acts) (others_are_planned x (stepped g s st name p) (decided (unchanged name p) g s st) e same
        (step (words b cells) p refl does_here.1))

pub accesses_are_planned : (kinds : List NameKind) (statement : ℕ → Order) (operation : Bind → Act) (MayBe : Bind → Type 0)
    (words : Bind → Cells → Result Cells Trap) (change : Value → Contents → Result Contents Trap) (after : ℕ → ScriptState → ScriptState)
    → IsOneAccess kinds statement operation MayBe words change after → IsPlannedBy kinds statement operation
accesses_are_planned kinds statement operation MayBe words change after it x g s st name d e small known was pass w is add =
    statement_planned x g s st name kinds d small known was w statement operation MayBe words change after it e add pass is
