-- The state after an accepted schedule, by what changes, and the two numbers of a schedule.
use Rattle.std.proofs.Common.{◌≡◌, ℕ, ◌+◌, Bool, true, false, ◌&&◌, List, [], ◌∷◌, length, map, get_or, Option, Some, None, pos, refl, sym, ap, ◌∙◌}
use Rattle.std.specs.Prelude.{is_some, if◌then◌else◌}
use Rattle.std.proofs.lemmas.List.{length-replicate}
use Rattle.frame_ast.specs.declared.kernel.Param.{Param}
use Rattle.frame_ast.specs.declared.script.Arg.{Arg}
use Rattle.frame_ast.specs.declared.script.Arg.TheVariants.{Name, Number}
use Rattle.frame_ast.specs.Accepted.{one_of}
use Rattle.frame_ast.specs.Conflicts.{with_uses}
use Rattle.frame_ast.specs.Contents.{Contents, Cells, Single, Items, Pairs, Entries}
use Rattle.frame_ast.specs.Effects.{all_broken, view_broken, steps_by}
use Rattle.frame_ast.specs.Forms.{form_of}
use Rattle.frame_ast.specs.JobRuns.{executes, no_run}
use Rattle.frame_ast.specs.Jobs.{only, with_job}
use Rattle.frame_ast.specs.Orders.{Setting, params_of, is_parallel, job_length}
use Rattle.frame_ast.specs.Schedules.{Given, arguments_of, is_list, writes_to, leave, leave_all, left_in, widths_from}
use Rattle.frame_ast.specs.States as states
use Rattle.frame_ast.specs.States.{ScriptState, with_at, with_contents, container_at, contents_at}
use Rattle.plan_laws.specs.Accepting.{Schedule, uses_of, accepted, deps_of}
use Rattle.plan_laws.specs.Binds.{bind_of}
use Rattle.plan_state.specs.Growth.{numbers_of}
use Rattle.plan_schedules.specs.Starting.{numbers_by}

-- ---- small facts

pub bind_by_form : (start : ℕ) (c d : Contents) → form_of c ≡ form_of d → bind_of start c ≡ bind_of start d
bind_by_form start c d e = formed c ∙ ap (bind_of start) e ∙ sym (formed d)
  where
    formed : (c : Contents) → bind_of start c ≡ bind_of start (form_of c)
    formed (Cells xs) = ap (λ n. Rattle.kernel_exec.specs.declared.binds.Bind.TheVariants.Array (record { start = start; len = n }) 0)
        (sym (length-replicate (length xs) (pos 0)))
    formed (Single z) = refl
    formed (Items cap xs) = refl
    formed (Pairs cap ps) = refl
    formed (Entries room es) = ap (λ n. Rattle.kernel_exec.specs.declared.binds.Bind.TheVariants.Stream
        (record { start = start; count = n; room = room }) false) (sym (length-replicate (length es) None))

-- contents alone change where a job leaves what it was given, and view numbers alone where views are broken

leave_is : (p : Param) (a : Arg) (new : Contents) (s : ScriptState) → leave p a new s ≡ record s { contents = (leave p a new s).contents }
leave_is p (Number z) new s = refl
leave_is p (Name n) new s = by (writes_to p.access)
  where
    by : (b : Bool) → (if b then with_contents (container_at s n) (left_in p.kind (s.values n) new (contents_at s n)) s else s)
        ≡ record s { contents = (if b then with_contents (container_at s n) (left_in p.kind (s.values n) new (contents_at s n)) s else s).contents }
    by true = refl
    by false = refl

pub leave_all_is : (ps : List Param) (args : List Arg) (news : List Contents) (s : ScriptState)
    → leave_all ps args news s ≡ record s { contents = (leave_all ps args news s).contents }
leave_all_is [] args news s = refl
leave_all_is (p ∷ ps) [] news s = refl
leave_all_is (p ∷ ps) (a ∷ as_) [] s = refl
leave_all_is (p ∷ ps) (a ∷ as_) (new ∷ news) s =
    leave_all_is ps as_ news (leave p a new s)
    ∙ ap (λ (u : ScriptState). record u { contents = (leave_all ps as_ news (leave p a new s)).contents }) (leave_is p a new s)

broken_is : (gs : List Given) (s : ScriptState) → all_broken gs s ≡ record s { view = (all_broken gs s).view }
broken_is [] s = refl
broken_is (g ∷ gs) s =
    broken_is gs (if is_list g.kind && g.need.writes then view_broken g.need.container s else s)
    ∙ ap (λ (u : ScriptState). record u { view = (all_broken gs (if is_list g.kind && g.need.writes then view_broken g.need.container s else s)).view })
    (by (is_list g.kind && g.need.writes))
  where
    by : (b : Bool) → (if b then view_broken g.need.container s else s) ≡ record s { view = (if b then view_broken g.need.container s else s).view }
    by true = refl
    by false = refl

abbrev stored : Setting → ScriptState → Schedule → List Contents
stored g s o =
    (get_or g.runs o.kernel no_run (widths_from (is_parallel g o.kernel) o.waive 0 (params_of g o.kernel)) (steps_by o.defer) (job_length s o.cut o.defer)
    (arguments_of s (params_of g o.kernel) o.args)).store

-- the contents that a job leaves
abbrev pub left : Setting → ScriptState → Schedule → ScriptState
left g s o = leave_all (params_of g o.kernel) o.args (stored g s o) s

pub broken_left : (gs : List Given) (ps : List Param) (args : List Arg) (news : List Contents) (s : ScriptState)
    → all_broken gs (leave_all ps args news s) ≡ record s {
      contents = (all_broken gs (leave_all ps args news s)).contents;
      view = (all_broken gs (leave_all ps args news s)).view;
    }
broken_left gs ps args news s =
    let l = leave_all ps args news s in
    let x = all_broken gs l in
    let same = ap (λ (u : ScriptState). u.contents) (broken_is gs l) in
    broken_is gs l
    ∙ ap (λ (u : ScriptState). record u { view = x.view }) (leave_all_is ps args news s)
    ∙ (λ i. record s { contents = sym same i; view = x.view })

pub left_view : (g : Setting) (s : ScriptState) (o : Schedule) → (left g s o).view ≡ s.view
left_view g s o = ap (λ (u : ScriptState). u.view) (leave_all_is (params_of g o.kernel) o.args (stored g s o) s)

-- the state after an accepted schedule, by what changes
pub accepted_is : (g : Setting) (s : ScriptState) (o : Schedule) → accepted g s o ≡ record s {
  values = with_at s.values o.handle (states.Handle (only (s.book.count + 1)));
  contents = (accepted g s o).contents;
  view = (accepted g s o).view;
  uses = with_uses s.uses (s.book.count + 1) (map (λ v. v.need) (uses_of g s o));
  book = with_job s.book (deps_of g s o);
  traps = (accepted g s o).traps;
}
accepted_is g s o =
    ap (λ (l : ScriptState). record l {
      values = with_at s.values o.handle (states.Handle (only (s.book.count + 1)));
      uses = with_uses s.uses (s.book.count + 1) (map (λ v. v.need) (uses_of g s o));
      book = with_job s.book (deps_of g s o);
      traps = (accepted g s o).traps;
    })
    (broken_left (uses_of g s o) (params_of g o.kernel) o.args (stored g s o) s)

-- the two numbers of a schedule, by the state before it
pub numbers_are : (s : ScriptState) (cut : Option (ℕ × ℕ)) → numbers_by cut ≡ numbers_of s cut None
numbers_are s None = refl
numbers_are s (Some cut) = refl

-- the number of indexes, and a cut for a kernel that isn't parallel
pub indexes_are : (s : ScriptState) (parallel : Bool) (cut : Option (ℕ × ℕ)) → one_of parallel (is_some cut) false ≡ true
    → (numbers_by cut).0 ≡ executes parallel (job_length s cut None)
indexes_are s true None e = absurd cc
indexes_are s true (Some cut) e = refl
indexes_are s false None e = refl
indexes_are s false (Some cut) e = absurd cc

pub no_cut : (parallel : Bool) (cut : Option (ℕ × ℕ)) → one_of parallel (is_some cut) false ≡ true → parallel ≡ false → cut ≡ None
no_cut true cut e f = absurd cc
no_cut false None e f = refl
no_cut false (Some cut) e f = absurd cc
