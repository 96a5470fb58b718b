-- The plan in which a word is used again, made step by step.
use Rattle.std.proofs.Common.{◌≡◌, ℕ, zero, suc, ◌<◌, inl, inr, Bool, true, false, cond, ◌&&◌, eqb, eqb-true, eq-eqb, [], ◌∷◌, refl, sym, ap, ◌∙◌, arith, ℤ, pos, ◌+ℤ◌}
use Rattle.std.proofs.lemmas.Bool.{and_parts, cond-true, cond-false}
use Rattle.merge_laws.specs.Graph.{Cells, LeadsTo, directly, further}
use Rattle.merge_laws.specs.Pieces.{Jobs, Piece, graph_of, precedes_in, IsFramed}
use Rattle.merge_laws.specs.Ledger.{IsLedger, AreInOrder}
use Rattle.merge_laws.specs.Planning.{DoesMore, IsPartOfNewest}
use Rattle.merge_laws.specs.Reuse.{only_1, no_job, giving, idle, ledger, nothing_live, at_first, with_container_0, with_job, with_job_completed, with_container_1, reusing, not_waiting, fives, ReuseIsInOrder}
use Rattle.merge_laws.proofs.Tests.{not_both}
use Rattle.merge_laws.proofs.Places.{precedes_below}
use Rattle.merge_laws.proofs.Touching.{segments_keep_order}
use Rattle.merge_laws.proofs.Starting.{parts_keep_order}
use Rattle.merge_laws.proofs.Proceeding.{first_segments_are_in_order, new_segments_keep_order, ledgers_keep_order}
use Rattle.merge_laws.proofs.Framing.{plans_are_well_ordered}

-- each of these is a ledger, since at most one container is live
ledger_of : (jobs : ℕ) (completed : Bool) (live : ℕ → Bool) → ((c d : ℕ) → live c ≡ true → live d ≡ true → c ≡ d) → IsLedger (ledger jobs completed live)
ledger_of jobs completed live one = record {
  older = λ j k d. absurd (not_both d refl);
  written = λ c j u. u;
  apart = λ c d w lc ld a b. one c d lc ld;
}

only : (n c d : ℕ) → eqb c n ≡ true → eqb d n ≡ true → c ≡ d
only n c d a b = eqb-true c n a ∙ sym (eqb-true d n b)

first_ledger : IsLedger at_first
first_ledger = ledger_of 0 false nothing_live (λ c d a b. absurd (not_both a refl))

container_ledger : IsLedger with_container_0
container_ledger = ledger_of 0 false (λ c. eqb c 0) (only 0)

job_ledger : IsLedger with_job
job_ledger = ledger_of 1 false (λ c. eqb c 0) (only 0)

completed_ledger : IsLedger with_job_completed
completed_ledger = ledger_of 1 true (λ c. eqb c 0) (only 0)

last_ledger : IsLedger with_container_1
last_ledger = ledger_of 1 true (λ c. eqb c 1) (only 1)

-- where there is no job nobody uses anything
nobody_uses : (c j : ℕ) → (eqb c 0 && (eqb j 1 && false)) ≡ true → ⊥
nobody_uses c j u = not_both (and_parts (eqb j 1) false (and_parts (eqb c 0) (eqb j 1 && false) u).1).1 refl

-- the user of a container is job 1
user_is : (c j : ℕ) → (eqb c 0 && (eqb j 1 && true)) ≡ true → (c ≡ 0) × (j ≡ 1)
user_is c j u = let a = and_parts (eqb c 0) (eqb j 1 && true) u in (eqb-true c 0 a.0, eqb-true j 1 (and_parts (eqb j 1) true a.1).0)

-- the segment at hand makes a container, of which nobody is a pending user
makes : (jobs : ℕ) (completed : Bool) (live : ℕ → Bool) (after : Jobs) (value : Cells → ℤ) (c : ℕ) → live c ≡ true
    → ((j : ℕ) → (ledger jobs completed live).users c j ≡ true → (completed && eqb j 1) ≡ true)
    → DoesMore (ledger jobs completed live) (idle after) (giving 0 after value)
makes jobs completed live after value c alive done = record {
  segment = refl;
  job = refl;
  after = λ j. refl;
  reads = λ w r. inr (record { container = c; live = alive; word = r; completed = done });
  writes = λ w r. inr (record { container = c; live = alive; word = r; completed = done });
  reads_written = λ w r. r;
}

-- THE STEPS

made_0 : AreInOrder with_container_0 (giving 0 no_job (λ c. pos 7) ∷ [])
made_0 = segments_keep_order with_container_0 (idle no_job) (giving 0 no_job (λ c. pos 7)) [] container_ledger
    (ledgers_keep_order at_first with_container_0 (idle no_job ∷ []) first_ledger
    (first_segments_are_in_order at_first (idle no_job) first_ledger refl (λ w. refl) (λ w. refl))
    (record { jobs = omega arith; depends = λ j k le d. d; completed = λ j. refl; containers = λ c l. absurd (not_both l refl) }))
    (makes 0 false (λ c. eqb c 0) no_job (λ c. pos 7) 0 refl (λ j u. absurd (nobody_uses 0 j u)))

enrolled : AreInOrder with_job (giving 0 no_job (λ c. pos 7) ∷ [])
enrolled = ledgers_keep_order with_container_0 with_job (giving 0 no_job (λ c. pos 7) ∷ []) container_ledger made_0 (record {
  jobs = omega arith;
  depends = λ j k le d. d;
  completed = λ j. refl;
  containers = λ c l. inr (record { live = l; words = λ w t. t; users = λ j u. absurd (nobody_uses c j u); writers = λ j u. absurd (nobody_uses c j u) });
})

job_part : IsPartOfNewest with_job (giving 1 no_job (λ c. c 0 +ℤ pos 1))
job_part = record {
  job = refl;
  is_job = omega arith;
  uncompleted = refl;
  after = λ j d. d;
  after_older = λ j a. absurd (not_both a refl);
  reads = λ w r. record { container = 0; live = refl; word = r; user = refl };
  writes = λ w r. record { container = 0; live = refl; word = r; writer = refl };
  reads_written = λ w r. r;
  writers_free = λ c j l u w lt. let one = (user_is c j w).1 in absurd (omega arith);
  users_free = λ c j l u w lt. let one = (user_is c j w).1 in absurd (omega arith);
}

started : AreInOrder with_job (giving 1 no_job (λ c. c 0 +ℤ pos 1) ∷ giving 0 no_job (λ c. pos 7) ∷ [])
started = parts_keep_order with_job (giving 0 no_job (λ c. pos 7) ∷ []) (giving 1 no_job (λ c. c 0 +ℤ pos 1)) job_ledger enrolled
    (λ j low lt. absurd (omega arith)) job_part
    (λ p lt q. absurd (first_only p lt q))
  where
    first_only : (p : ℕ) → p < 1 → (cond (eqb p 0) (giving 0 no_job (λ c. pos 7)) (Rattle.merge_laws.specs.Pieces.no_piece)).job ≡ 1 → ⊥
    first_only zero lt q = let e : ◌≡◌ {A = ℕ} 0 1 = q in omega arith
    first_only (suc p) lt q = omega arith

completed : AreInOrder with_job_completed (idle only_1 ∷ giving 1 no_job (λ c. c 0 +ℤ pos 1) ∷ giving 0 no_job (λ c. pos 7) ∷ [])
completed = new_segments_keep_order with_job with_job_completed (giving 1 no_job (λ c. c 0 +ℤ pos 1) ∷ giving 0 no_job (λ c. pos 7) ∷ []) (idle only_1) started
    (record {
      segment = refl;
      reads = λ w. refl;
      writes = λ w. refl;
      jobs = refl;
      depends = λ j k d. d;
      no_depends = λ k. refl;
      completed = λ j c. inr c;
      still_completed = λ j c. absurd (not_both c refl);
      live = λ c. refl;
      words = λ c w. refl;
      users = λ c j. refl;
      writers = λ c j. refl;
    })

-- the words of container 0 come back, since its user is completed, and container 1 gets them
made_1 : AreInOrder with_container_1 reusing
made_1 = segments_keep_order with_container_1 (idle only_1) (giving 0 only_1 (λ c. pos 0))
    (giving 1 no_job (λ c. c 0 +ℤ pos 1) ∷ giving 0 no_job (λ c. pos 7) ∷ []) last_ledger
    (ledgers_keep_order with_job_completed with_container_1 (idle only_1 ∷ giving 1 no_job (λ c. c 0 +ℤ pos 1) ∷ giving 0 no_job (λ c. pos 7)
    ∷ []) completed_ledger completed (record {
      jobs = omega arith;
      depends = λ j k le d. d;
      completed = λ j. refl;
      containers = λ c l. inl (λ j u. eq-eqb j 1 (user_is c j u).1);
    }))
    (makes 1 true (λ c. eqb c 1) only_1 (λ c. pos 0) 1 refl (λ j u. absurd (not_both u refl)))

-- a piece that gives word 0 a value of what it reads is framed
framed : (job : ℕ) (after : Jobs) (value : Cells → ℤ) (before : Cells) → ((c : Cells) → c 0 ≡ before 0 → value c ≡ value before)
    → IsFramed (giving job after value) before
framed job after value before same = record {
  written = λ c h w t. cond-true (eqb w 0) (value c) (c w) t ∙ (same c (h 0 refl) ∙ sym (cond-true (eqb w 0) (value before) (before w) t));
  kept = λ c h w f. cond-false (eqb w 0) (value c) (c w) f;
}

-- NOT WAITING

leads_earlier : {p q : ℕ} → LeadsTo (graph_of not_waiting) p q → p < q
leads_earlier (directly {p = p} {q = q} b) = (precedes_below not_waiting p q b).0
leads_earlier (further {q = q} {r = r} l b) = let up = leads_earlier l in let on = (precedes_below not_waiting q r b).0 in omega arith

not_led : {p q : ℕ} → LeadsTo (graph_of not_waiting) p q → p ≡ 1 → q ≡ 2 → ⊥
not_led (directly {q = q} b) e f = not_both b (ap (λ x. precedes_in not_waiting x q) e ∙ ap (precedes_in not_waiting 1) f)
not_led (further {q = q} {r = r} l b) e f = let up = leads_earlier l in let on = (precedes_below not_waiting q r b).0 in omega arith

pub reuse_is_in_order : ReuseIsInOrder
reuse_is_in_order = record {
  in_order = made_1;
  well_ordered = plans_are_well_ordered with_container_1 fives reusing made_1 (
    framed 0 only_1 (λ c. pos 0) _ (λ c e. refl),
    (framed 1 no_job (λ c. c 0 +ℤ pos 1) _ (λ c e. ap (λ x. x +ℤ pos 1) e), (framed 0 no_job (λ c. pos 7) _ (λ c e. refl), tt)),
  );
  first = refl;
  second = refl;
  not_back = refl;
  cells_at_first = refl;
  cells = refl;
  other_cells = refl;
  before_reuse = refl;
  not_waited = refl;
  out_of_order = λ D. not_led (D.conflicts_lead 1 2 0 (omega arith) (omega arith) (inl (refl, refl))) refl refl;
}
