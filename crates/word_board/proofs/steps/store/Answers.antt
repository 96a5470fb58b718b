use Rattle.std.proofs.Common.{◌≡◌, ℕ, ◌<◌, true, refl, sym, ap, ◌∙◌, subst, arith, rules, w64}
use Rattle.std.specs.Int.{cast_signed}
use mathlib.Core.Option.{none}
use Rattle.atomic_table.specs.Table.{Me, step, Allows}
use Rattle.frame_core.specs.declared.plan.Plan.{Plan}
use Rattle.frame_core.specs.Know.{piece_count, writes}
use Rattle.word_board.specs.declared.view.View.{View}
use Rattle.word_board.specs.Words.{cell_word}
use Rattle.word_board.specs.Rule.{Holds}
use Rattle.word_board.specs.Plays.{Stores}
use Rattle.word_board.proofs.Leased.{held_of}
use Rattle.word_board.proofs.Cells.{allows_store}
use Rattle.word_board.proofs.steps.store.Goals as goal

abbrev AllowsAt : Plan → ℕ → ℕ → Me ℕ View → ℕ → ℕ → Type 0
AllowsAt key slots id me i u = Allows (Holds key) slots id me i (λ _. u) (λ _. Stores (step slots i u 0 none) me u)

pub store-requires : goal.store-requires
store-requires c =
    let S = c.requires.seat in
    let me : Me ℕ View = c.args.seat.now.me in
    let key : Plan = c.args.board.now.key in
    let slots : ℕ = c.args.board.now.table_id.slots in
    let h = held_of me.0.lease c.requires.lease.0 c.requires.lease.1 in
    let size = S.size in
    let low = c.requires.word in
    let word : c.args.word < me.0.plan.words = subst (λ (p : Plan). c.args.word < p.words) (sym S.plan_is) low in
    let below : h.0.piece < piece_count me.0.plan = subst (λ (p : Plan). h.0.piece < piece_count p) (sym S.plan_is)
    (subst (λ n. n < piece_count key) (sym h.2) c.requires.lease.2) in
    let written : writes me.0.plan h.0.piece c.args.word ≡ true = subst (λ (p : Plan). writes p h.0.piece c.args.word ≡ true) (sym S.plan_is)
    (subst (λ n. writes key n c.args.word ≡ true) (sym h.2) c.requires.lease.3) in (
      S.same,
      omega arith,
      subst (λ (p : Plan). AllowsAt p slots c.args.seat.now.id me (cell_word c.args.word) c.cast_unsigned.result) S.plan_is
          (allows_store slots c.args.seat.now.id me h.0 c.args.word c.cast_unsigned.result h.1 below written word),
    )

pub returns-clause-seat : goal.returns-clause-seat
returns-clause-seat c =
    let S = c.requires.seat in
    record { same = c.store.ensures.0 ∙ S.same; plan_is = ap (λ (m : Me ℕ View). m.0.plan) (c.store.ensures.2 c.args.word refl) ∙ S.plan_is; size = S.size }

pub returns-clause-found : goal.returns-clause-found
returns-clause-found c =
    let stored : c.args.value ≡ cast_signed w64 c.cast_unsigned.result = search rules in
    stored ∙ ap (λ (m : Me ℕ View). cast_signed w64 m.0.found) (sym (c.store.ensures.2 c.args.word refl))
