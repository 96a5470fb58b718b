-- The containers that become overdue with a frame, by the list of those that may: each is reported in the order of their
-- making.
use Rattle.std.proofs.Common.{◌≡◌, ◌≢◌, ℕ, zero, suc, ◌+◌, ◌<◌, ◌≤◌, ◌⊎◌, inl, inr, ⊎_elim, Bool, true, false, eq-eqb, ne_eqb, ◌&&◌, List, [], ◌∷◌, ◌++◌, length, Some, None, refl, sym, ap, subst, ◌∙◌, arith, append-nil}
use Rattle.std.specs.List.{All}
use Rattle.std.specs.Prelude.{vec_len, nat_eq, slice_get, get_or, if◌then◌else◌}
use Rattle.std.proofs.lemmas.Bool.{cases_eq, cases_lt}
use Rattle.std.proofs.lemmas.List.{length-append}
use Rattle.frame_ast.specs.Effects.{is_tempjob, is_overdue}
use Rattle.frame_ast.specs.Orders.{Setting}
use Rattle.frame_ast.specs.States.{ScriptState}
use Rattle.frame_core.specs.declared.plan.Act.TheVariants.{Report}
use Rattle.frame_core.specs.declared.plan.Op.{Op}
use Rattle.frame_core.proofs.Small.{some_is, none_some, get_below, either_bool}
use Rattle.plan_laws.specs.Frames.{report_op, report_ops}
use Rattle.plan_state.specs.declared.state.Container.{Container}
use Rattle.plan_state.specs.declared.state.World.{World}
use Rattle.plan_statements.specs.Frames.{is_kept, HaveRoom, IsDue, IsNextDue, IsYoung, AreSeen, IsReported, AreReported}
use Rattle.plan_state.specs.Stands.{IsContainer, Knows}
use Rattle.plan_state.proofs.Accessing.{read_some}

-- ---- elements of a list

pub get_some : (xs : List ℕ) (k d z : ℕ) → slice_get xs k ≡ Some d → get_or xs k z ≡ d
get_some [] k d z e = absurd (none_some e)
get_some (x ∷ xs) zero d z e = some_is e
get_some (x ∷ xs) (suc k) d z e = get_some xs k d z e

pub get_there : (xs : List ℕ) (k z : ℕ) → k < length xs → slice_get xs k ≡ Some (get_or xs k z)
get_there [] k z lt = absurd (omega arith)
get_there (x ∷ xs) zero z lt = refl
get_there (x ∷ xs) (suc k) z lt = get_there xs k z (omega arith)

pub get_past : (xs : List ℕ) (k z : ℕ) → length xs ≤ k → get_or xs k z ≡ z
get_past [] k z le = refl
get_past (x ∷ xs) zero z le = absurd (omega arith)
get_past (x ∷ xs) (suc k) z le = get_past xs k z (omega arith)

-- what was seen up to a place of its list, and said of it
pub record IsSoFar (w : World) (line : ℕ) (s : ScriptState) (k : ℕ) (ops : List Op) : Type 0 where
  pub said : ops ≡ report_ops s line (get_or w.tempjobs.items k s.made)
  pub within : k ≤ length w.tempjobs.items
  pub from : w.overdue ≤ k
  pub past : (j c : ℕ) → j < k → slice_get w.tempjobs.items j ≡ Some c → (s.making c).frame + 4 ≤ s.frame + 1

module _ (w : World) (line : ℕ) (g : Setting) (s : ScriptState) (found : List ℕ) (st : Knows w g s found) where
  abbrev jobs : List ℕ
  jobs = w.tempjobs.items

  abbrev bound : ℕ → ℕ
  bound k = get_or jobs k s.made

  -- those from a place on are no lower
  at_least : (k j d : ℕ) → k ≤ j → slice_get jobs j ≡ Some d → bound k ≤ d
  at_least k j d le h = ⊎_elim
      (λ e. let same = get_some jobs j d s.made h in let f = ap bound e in omega arith)
      (λ ne. let lt = get_below jobs j d h in let less : k < j = omega arith in
      let r = st.tempjobs.rising k j (bound k) d less (get_there jobs k s.made (omega arith)) h in omega arith)
      (cases_eq k j)

  -- those before it are lower
  below_bound : (k j d : ℕ) → j < k → slice_get jobs j ≡ Some d → d < bound k
  below_bound k j d lt h = ⊎_elim
      (λ in_list. st.tempjobs.rising j k d (bound k) lt h (get_there jobs k s.made in_list))
      (λ after. let e = get_past jobs k s.made (omega arith) in let made = (st.tempjobs.each j d h).0 in omega arith)
      (cases_lt k (length jobs))

  pub bound_low : (k : ℕ) → bound k ≤ s.made
  bound_low k = ⊎_elim
      (λ in_list. let made = (st.tempjobs.each k (bound k) (get_there jobs k s.made in_list)).0 in omega arith)
      (λ after. let e = get_past jobs k s.made (omega arith) in omega arith)
      (cases_lt k (length jobs))

  -- a place is no higher than the number there
  pub place_low : (k c : ℕ) → slice_get jobs k ≡ Some c → k ≤ c
  place_low zero c h = omega arith
  place_low (suc k) c h =
      let lt = get_below jobs (suc k) c h in
      let before = get_there jobs k s.made (omega arith) in
      let le = place_low k (bound k) before in
      let r = st.tempjobs.rising k (suc k) (bound k) c (omega arith) before h in
      omega arith

  not_due : (d : ℕ) → d < s.made → ((j : ℕ) → slice_get jobs j ≡ Some d → (s.making d).frame + 4 ≢ s.frame + 1) → is_overdue s d ≡ false
  not_due d lt other = ⊎_elim
      (λ e. let at = st.tempjobs.all d lt e in
      ap (λ b. is_tempjob (s.life d) && (s.alive d && b)) (ne_eqb ((s.making d).frame + 4) (s.frame + 1) (other at.0 at.1))
      ∙ none (is_tempjob (s.life d)) (s.alive d))
      (λ e. ap (λ b. b && (s.alive d && nat_eq ((s.making d).frame + 4) (s.frame + 1))) e)
      (either_bool (is_tempjob (s.life d)))
    where
      none : (a b : Bool) → (a && (b && false)) ≡ false
      none true true = refl
      none true false = refl
      none false b = refl

  gap : (m k : ℕ) → m ≤ k → ((d : ℕ) → m ≤ d → d < k → is_overdue s d ≡ false) → report_ops s line k ≡ report_ops s line m
  gap m zero le none = (let e : zero ≡ m = omega arith in ap (report_ops s line) e)
  gap m (suc k) le none = ⊎_elim
      (λ e. ap (report_ops s line) (sym e))
      (λ ne. ap (λ b. report_ops s line k ++ (if b then report_op s line k ∷ [] else [])) (none k (omega arith) (omega arith))
      ∙ append-nil (report_ops s line k) ∙ gap m k (omega arith) (λ d le lt. none d le (omega arith)))
      (cases_eq m (suc k))

  -- none of those before is overdue now
  pub begins : IsSoFar w line s w.overdue []
  begins = record {
    said = sym (gap 0 (bound w.overdue) (omega arith) (λ d le lt.
        not_due d (let low = bound_low w.overdue in omega arith) (λ j h same. ⊎_elim
        (λ before. let past = st.tempjobs.past j d before h in omega arith)
        (λ after. let least = at_least w.overdue j d (omega arith) h in omega arith)
        (cases_lt j w.overdue))));
    within = st.tempjobs.within;
    from = omega arith;
    past = λ j c lt h. let past = st.tempjobs.past j c lt h in omega arith;
  }

  -- one more is seen
  module _ (k : ℕ) (ops : List Op) (so : IsSoFar w line s k ops) (c : ℕ) (it : Container) (at : slice_get jobs k ≡ Some c)
      (has : slice_get w.containers.items c ≡ Some it)
      (old : it.frame + 3 ≤ s.frame) where
    kept : IsContainer w s found c it
    kept = st.containers.each c it has

    frame_is : (s.making c).frame + 4 ≡ s.frame + 1
    frame_is =
        let f = kept.making.0 in
        let ahead = st.tempjobs.ahead k c so.from at in
        omega arith

    overdue_is : is_overdue s c ≡ is_kept w it
    overdue_is =
        ap (λ b. b && (s.alive c && nat_eq ((s.making c).frame + 4) (s.frame + 1))) (st.tempjobs.each k c at).1
        ∙ ap (λ b. s.alive c && b) (eq-eqb ((s.making c).frame + 4) (s.frame + 1) frame_is)
        ∙ and_true (s.alive c) ∙ sym kept.taken
      where
        and_true : (b : Bool) → (b && true) ≡ b
        and_true true = refl
        and_true false = refl

    op_is : record { line = line; name = it.name; act = Report it.line } ≡ report_op s line c
    op_is = (let name = kept.making.1 in let made = kept.making.2 in λ i. record { line = line; name = name i; act = Report (made i) })

    here : report_ops s line (suc c) ≡ report_ops s line (bound k) ++ (if is_kept w it then record { line = line; name = it.name; act = Report it.line }
        ∷ [] else [])
    here =
        (let b = overdue_is in let o = sym op_is in λ i. report_ops s line c ++ (if b i then o i ∷ [] else []))
        ∙ ap (λ m. report_ops s line m ++ (if is_kept w it then record { line = line; name = it.name; act = Report it.line } ∷ [] else []))
        (sym (get_some jobs k c s.made at))

    next_low : suc c ≤ bound (suc k)
    next_low = below_bound (suc k) k c (omega arith) at

    next_is : report_ops s line (bound (suc k)) ≡ report_ops s line (suc c)
    next_is = gap (suc c) (bound (suc k)) next_low (λ d le lt.
        not_due d (let low = bound_low (suc k) in omega arith) (λ j h same. ⊎_elim
        (λ before. let less = below_bound k j d before h in let e = get_some jobs k c s.made at in omega arith)
        (λ after. ⊎_elim
        (λ e. let f = some_is (sym h ∙ ap (slice_get jobs) (sym e) ∙ at) in omega arith)
        (λ ne. let least = at_least (suc k) j d (omega arith) h in omega arith)
        (cases_eq k j))
        (cases_lt j k)))

    pub goes_on : (new : List Op) → new ≡ ops ++ (if is_kept w it then record { line = line; name = it.name; act = Report it.line } ∷ [] else [])
        → IsSoFar w line s (k + 1) new
    goes_on new is = (let e : suc k ≡ k + 1 = omega arith in subst (λ m. IsSoFar w line s m new) e (record {
      said = is
          ∙ ap (λ o. o ++ (if is_kept w it then record { line = line; name = it.name; act = Report it.line } ∷ [] else [])) so.said
          ∙ sym (next_is ∙ here);
      within = (let lt = get_below jobs k c at in omega arith);
      from = (let le = so.from in omega arith);
      past = λ j d lt h. ⊎_elim
          (λ e. let f = some_is (sym h ∙ ap (slice_get jobs) e ∙ at) in let same = frame_is in let frames = ap (λ m. (s.making m).frame) f in omega arith)
          (λ ne. so.past j d (omega arith) h)
          (cases_eq j k);
    }))

  -- none is left
  module _ (k : ℕ) (ops : List Op) (so : IsSoFar w line s k ops)
      (last : (length jobs ≤ k) ⊎ ((c : ℕ) × (it : Container) × (slice_get jobs k ≡ Some c) × (slice_get w.containers.items c ≡ Some it)
      × (s.frame < it.frame + 3))) where
    ahead : (j d : ℕ) → k ≤ j → slice_get jobs j ≡ Some d → s.frame + 1 < (s.making d).frame + 4
    ahead j d le h = ⊎_elim
        (λ past. let lt = get_below jobs j d h in absurd (omega arith))
        (λ y.
        let f = (st.containers.each y.0 y.1 y.3).making.0 in
        let first = get_some jobs k y.0 s.made y.2 in
        let least = at_least k j d le h in
        let order = st.frames.order y.0 d (omega arith) (st.tempjobs.each j d h).0 in
        let young = y.4 in
        omega arith)
        last

    pub ends_said : ops ≡ report_ops s line s.made
    ends_said = so.said ∙ sym (gap (bound k) s.made (bound_low k) (λ d le lt.
        not_due d lt (λ j h same. ⊎_elim
        (λ before. let less = below_bound k j d before h in omega arith)
        (λ after. let more = ahead j d (omega arith) h in omega arith)
        (cases_lt j k))))

    pub ends_seen : AreSeen w s k
    ends_seen = record { within = so.within; past = so.past; ahead = ahead }

-- ---- as the code goes along

pub due_read : (w : World) → All (λ c. c < vec_len w.containers) w.tempjobs.items → w.overdue < vec_len w.tempjobs
    → (c : ℕ) → c ≡ get_or w.tempjobs.items w.overdue c → (it : Container) → it ≡ get_or w.containers.items c it
    → (slice_get w.tempjobs.items w.overdue ≡ Some c) × (slice_get w.containers.items c ≡ Some it)
due_read w numbers lt c e it f =
    let len = w.tempjobs.ok.0 in
    let low = numbers w.overdue c (omega arith) in
    (read_some w.tempjobs w.overdue c lt e, read_some w.containers c it (omega arith) f)

pub record AreReportedSoFar (old now : World) (line : ℕ) (ops : List Op) : Type 0 where
  pub rest : now ≡ record old { overdue = now.overdue }
  pub count : length ops + old.overdue ≤ now.overdue
  pub so_far : (g : Setting) (s : ScriptState) (found : List ℕ) → Knows old g s found → old.frame ≡ s.frame → IsSoFar old line s now.overdue ops

pub reported_none : (w : World) (line : ℕ) → AreReportedSoFar w w line []
reported_none w line = record { rest = refl; count = omega arith; so_far = λ g s found st frame. begins w line g s found st }

module _ (v w : World) (line : ℕ) (ops : List Op) (so : AreReportedSoFar v w line ops) where
  tempjobs_are : w.tempjobs.items ≡ v.tempjobs.items
  tempjobs_are = ap (λ (k : World). k.tempjobs.items) so.rest

  containers_are : w.containers.items ≡ v.containers.items
  containers_are = ap (λ (k : World). k.containers.items) so.rest

  frame_same : w.frame ≡ v.frame
  frame_same = ap (λ (k : World). k.frame) so.rest

  pub reported_more : (q : World) (it : Container) (new : List Op) → IsDue w it → IsReported w ops new line it → q ≡ record w { overdue = w.overdue + 1 }
      → AreReportedSoFar v q line new
  reported_more q it new due one last =
      let as_v : q ≡ record v { overdue = w.overdue + 1 } = last ∙ ap {A = World} {B = World} (λ k. record k { overdue = w.overdue + 1 }) so.rest in
      let overdue : q.overdue ≡ w.overdue + 1 = ap (λ (k : World). k.overdue) last in
      let kept = ap (λ (k : World). is_kept k it) so.rest in
      let longer = ap length one ∙ length-append ops (if is_kept w it then record { line = line; name = it.name; act = Report it.line } ∷ [] else []) in
      record {
        rest = as_v ∙ (let a = sym (ap (λ (k : World). k.overdue) as_v) in λ i. record v { overdue = a i });
        count = (let c = so.count in let few = at_most_one (is_kept w it) in omega arith);
        so_far = λ g s found st frame.
            subst (λ o. IsSoFar v line s o new) (sym overdue)
            (goes_on v line g s found st w.overdue ops (so.so_far g s found st frame) due.number it
            (ap (λ xs. slice_get xs w.overdue) (sym tempjobs_are) ∙ due.at) (ap (λ xs. slice_get xs due.number) (sym containers_are) ∙ due.has)
            (let old = due.old in let same = frame_same in omega arith) new
            (one ∙ ap (λ b. ops ++ (if b then record { line = line; name = it.name; act = Report it.line } ∷ [] else [])) kept));
      }
    where
      at_most_one : (b : Bool) → length {A = Op} (if b then record { line = line; name = it.name; act = Report it.line } ∷ [] else []) ≤ 1
      at_most_one true = omega arith
      at_most_one false = omega arith

  pub reported_all : IsNextDue w None → AreReported v w line ops
  reported_all last = record {
    said = λ g s found st frame.
        let so_now = so.so_far g s found st frame in
        let end : (length v.tempjobs.items ≤ w.overdue) ⊎ ((c : ℕ) × (it : Container) × (slice_get v.tempjobs.items w.overdue ≡ Some c)
        × (slice_get v.containers.items c ≡ Some it) × (s.frame < it.frame + 3)) = ⊎_elim
        (λ past. inl (let l = ap length tempjobs_are in omega arith))
        (λ (y : IsYoung w). inr (
          y.number,
          y.it,
          ap (λ xs. slice_get xs w.overdue) (sym tempjobs_are) ∙ y.at,
          ap (λ xs. slice_get xs y.number) (sym containers_are) ∙ y.has,
          (let young = y.young in let same = frame_same in omega arith),
        ))
        last in (
          ends_said v line g s found st w.overdue ops so_now end,
          ends_seen v line g s found st w.overdue ops so_now end,
        );
    count = so.count;
    rest = so.rest;
  }

  -- the place of one that is due can go on
  pub place_fits : (it : Container) → IsDue w it → HaveRoom v.tempjobs.items → w.overdue + 1 < 4294967296
  place_fits it due room = room w.overdue due.number (ap (λ xs. slice_get xs w.overdue) (sym tempjobs_are) ∙ due.at)
