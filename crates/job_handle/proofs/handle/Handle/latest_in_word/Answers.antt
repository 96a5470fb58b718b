use Rattle.std.proofs.Common.{◌≡◌, ◌+◌, ◌-◌, ◌*◌, ◌/◌, ◌%◌, ◌^◌, ◌<◌, true, ap, subst, ◌∙◌, arith}
use Rattle.std.proofs.Math.Nat.{div-add-mod, mod-lt}
use Rattle.std.proofs.lemmas.Nat.Bits.{ones_shr}
use Rattle.job_handle.specs.Sets.{jobs_of, outside}
use Rattle.job_handle.proofs.Words.{none_at_all, none_up_to, last_up_to}
use Rattle.job_handle.proofs.handle.Handle.latest_in_word.Goals as goal

pub returns-then-all-eq0-clause-none : goal.returns-then-all-eq0-clause-none
returns-then-all-eq0-clause-none c =
    let at = c.args.to - 1 in
    let parts : 64 * (at / 64) + at % 64 ≡ at = div-add-mod at 64 in
    let rest : at % 64 < 64 = mod-lt at {m = 64} (omega arith) in
    λ k low high. none_at_all (outside (jobs_of c.args.self.now) (jobs_of c.args.other.now)) c.word_outside-all.result (at / 64) c.word_outside-all.ensures
    c.if-all-eq0.true k low (omega arith)

pub returns-then-bits-eq0-clause-none : goal.returns-then-bits-eq0-clause-none
returns-then-bits-eq0-clause-none c =
    let at = c.args.to - 1 in
    let parts : 64 * (at / 64) + at % 64 ≡ at = div-add-mod at 64 in
    let rest : at % 64 < 64 = mod-lt at {m = 64} (omega arith) in
    let width : 64 - (63 - at % 64) ≡ at % 64 + 1 = omega arith in
    λ k low high. none_up_to (outside (jobs_of c.args.self.now) (jobs_of c.args.other.now)) c.word_outside-all.result (at / 64) c.word_outside-all.ensures
    (at % 64) ((2 ^ 64 - 1) / 2 ^ (63 - at % 64)) rest (ones_shr 64 (63 - at % 64) (omega arith) ∙ ap (λ n. 2 ^ n - 1) width) c.if-bits-eq0.true k low
    (let some = c.requires.0 in omega arith)

pub returns-clause-some : goal.returns-clause-some
returns-clause-some c =
    let at = c.args.to - 1 in
    let parts : 64 * (at / 64) + at % 64 ≡ at = div-add-mod at 64 in
    let rest : at % 64 < 64 = mod-lt at {m = 64} (omega arith) in
    let width : 64 - (63 - at % 64) ≡ at % 64 + 1 = omega arith in
    let j = c.highest.result in
    let found = last_up_to (outside (jobs_of c.args.self.now) (jobs_of c.args.other.now)) c.word_outside-all.result (at / 64) c.word_outside-all.ensures
    (at % 64) ((2 ^ 64 - 1) / 2 ^ (63 - at % 64)) rest (ones_shr 64 (63 - at % 64) (omega arith) ∙ ap (λ n. 2 ^ n - 1) width)
    j c.highest.ensures.0 c.highest.ensures.1 c.highest.ensures.2 in
    let same : 64 * (at / 64) + j + 1 ≡ at / 64 * 64 + j + 1 = omega arith in
    let some = c.requires.0 in (
      omega arith,
      (let le = found.0 in omega arith),
      subst (λ k. outside (jobs_of c.args.self.now) (jobs_of c.args.other.now) k ≡ true) same found.1,
      (λ k low high. found.2 k (omega arith) (omega arith)),
    )
