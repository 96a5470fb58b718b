use Rattle.std.proofs.Common.{◌≡◌, ◌+◌, ◌-◌, ◌*◌, ◌/◌, ◌%◌, ◌^◌, ◌<◌, true, subst, bit_and, w64, arith}
use Rattle.std.specs.Int.{trailing_zeros}
use Rattle.std.proofs.Math.Nat.{div-add-mod, mod-lt}
use Rattle.std.proofs.lemmas.Nat.{and_le_l}
use Rattle.std.proofs.lemmas.Nat.Bits.{ones_shl, bit_at-trailing_zeros}
use Rattle.job_handle.specs.Sets.{jobs_of, outside}
use Rattle.job_handle.proofs.Words.{none_at_all, none_from, next_from}
use Rattle.job_handle.proofs.handle.Handle.next_in_word.Goals as goal

pub returns-then-all-eq0-clause-none : goal.returns-then-all-eq0-clause-none
returns-then-all-eq0-clause-none c =
    let at = c.args.from in
    let parts : 64 * (at / 64) + at % 64 ≡ at = div-add-mod at 64 in
    λ k low high. none_at_all (outside (jobs_of c.args.self.now) (jobs_of c.args.other.now)) c.word_outside-all.result (at / 64) c.word_outside-all.ensures
    c.if-all-eq0.true k (omega arith) high

pub returns-then-bits-eq0-clause-none : goal.returns-then-bits-eq0-clause-none
returns-then-bits-eq0-clause-none c =
    let at = c.args.from in
    let parts : 64 * (at / 64) + at % 64 ≡ at = div-add-mod at 64 in
    let rest : at % 64 < 64 = mod-lt at {m = 64} (omega arith) in
    λ k low high. none_from (outside (jobs_of c.args.self.now) (jobs_of c.args.other.now)) c.word_outside-all.result (at / 64) c.word_outside-all.ensures
    (at % 64) ((2 ^ 64 - 1) * 2 ^ (at % 64) % 2 ^ 64) rest (ones_shl 64 (at % 64) (omega arith)) c.if-bits-eq0.true k (omega arith) high

pub returns-clause-some : goal.returns-clause-some
returns-clause-some c =
    let at = c.args.from in
    let parts : 64 * (at / 64) + at % 64 ≡ at = div-add-mod at 64 in
    let rest : at % 64 < 64 = mod-lt at {m = 64} (omega arith) in
    let mask = (2 ^ 64 - 1) * 2 ^ (at % 64) % 2 ^ 64 in
    let bits = bit_and c.word_outside-all.result mask in
    let some : 0 < bits = let ne = c.if-bits-eq0.false in omega arith in
    let fits : bits < 2 ^ 64 = let le = and_le_l c.word_outside-all.result mask in let l = c.word_outside-all.type_inv in omega arith in
    let lowest = bit_at-trailing_zeros w64 bits some fits in
    let j = trailing_zeros w64 bits in
    let found = next_from (outside (jobs_of c.args.self.now) (jobs_of c.args.other.now)) c.word_outside-all.result (at / 64) c.word_outside-all.ensures
    (at % 64) mask rest (ones_shl 64 (at % 64) (omega arith)) j lowest.0 lowest.1 lowest.2 in
    let same : 64 * (at / 64) + j + 1 ≡ at / 64 * 64 + j + 1 = omega arith in (
      (let le = found.0 in omega arith),
      omega arith,
      subst (λ k. outside (jobs_of c.args.self.now) (jobs_of c.args.other.now) k ≡ true) same found.1,
      (λ k low high. found.2 k (omega arith) (omega arith)),
    )
