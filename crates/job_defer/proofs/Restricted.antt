-- Operations that do nothing at numbers that are none of n parameters.
use Rattle.std.proofs.Common.{◌≡◌, ℕ, ◌<◌, Bool, true, false, pos, Result, Err, refl}
use Rattle.std.specs.Prelude.{nat_lt, if◌then◌else◌}
use Rattle.std.proofs.lemmas.Bool.{lt-ltb, ltb-true}
use Rattle.job_base.specs.declared.Trap.{Trap}
use Rattle.job_base.specs.declared.Trap.TheVariants.{Range}
use Rattle.frame_ast.specs.Expressions.{Operations}
use Rattle.frame_ast.specs.Simulation.{AlikeResults}
use Rattle.job_defer.proofs.Unseen.{AgreeBelow}

abbrev pub restricted : {S : Type 0} → ℕ → Operations S → Operations S
restricted n p = record {
  value = λ x s. if nat_lt x n then p.value x s else pos 0;
  set_value = λ x v s. if nat_lt x n then p.set_value x v s else s;
  len = λ x s. if nat_lt x n then p.len x s else 0;
  get = λ x i s. if nat_lt x n then p.get x i s else Err Range;
  put = λ x i v s. if nat_lt x n then p.put x i v s else Err Range;
  add = λ x v s. if nat_lt x n then p.add x v s else Err Range;
  remove_at = λ x i s. if nat_lt x n then p.remove_at x i s else Err Range;
  has = λ x k s. if nat_lt x n then p.has x k s else false;
  add_pair = λ x k v s. if nat_lt x n then p.add_pair x k v s else Err Range;
  remove_key = λ x k s. if nat_lt x n then p.remove_key x k s else s;
  clear = λ x s. if nat_lt x n then p.clear x s else s;
  count = λ x i s. if nat_lt x n then p.count x i s else Err Range;
  item = λ x i k s. if nat_lt x n then p.item x i k s else Err Range;
  begin = λ x i s. if nat_lt x n then p.begin x i s else Err Range;
  write = λ x i v s. if nat_lt x n then p.write x i v s else Err Range;
}

pub agrees : {S : Type 0} (n : ℕ) (p : Operations S) → AgreeBelow n (restricted n p) p
agrees n p = record {
  value = λ x lt i s. if (lt-ltb x n lt i) then p.value x s else pos 0;
  set_value = λ x lt i v s. if (lt-ltb x n lt i) then p.set_value x v s else s;
  len = λ x lt i s. if (lt-ltb x n lt i) then p.len x s else 0;
  get = λ x lt i j s. if (lt-ltb x n lt i) then p.get x j s else Err Range;
  put = λ x lt i j v s. if (lt-ltb x n lt i) then p.put x j v s else Err Range;
  add = λ x lt i v s. if (lt-ltb x n lt i) then p.add x v s else Err Range;
  remove_at = λ x lt i j s. if (lt-ltb x n lt i) then p.remove_at x j s else Err Range;
  has = λ x lt i k s. if (lt-ltb x n lt i) then p.has x k s else false;
  add_pair = λ x lt i k v s. if (lt-ltb x n lt i) then p.add_pair x k v s else Err Range;
  remove_key = λ x lt i k s. if (lt-ltb x n lt i) then p.remove_key x k s else s;
  clear = λ x lt i s. if (lt-ltb x n lt i) then p.clear x s else s;
  count = λ x lt i j s. if (lt-ltb x n lt i) then p.count x j s else Err Range;
  item = λ x lt i j k s. if (lt-ltb x n lt i) then p.item x j k s else Err Range;
  begin = λ x lt i j s. if (lt-ltb x n lt i) then p.begin x j s else Err Range;
  write = λ x lt i j v s. if (lt-ltb x n lt i) then p.write x j v s else Err Range;
}

module _ (x n : ℕ) where
  pub same_if : {A : Type 0} (a b d : A) → (x < n → a ≡ b)
      → (if nat_lt x n then a else d) ≡ (if nat_lt x n then b else d)
  same_if {A} a b d h = go (nat_lt x n) refl
    where
      go : (t : Bool) → nat_lt x n ≡ t → (if t then a else d) ≡ (if t then b else d)
      go true e = h (ltb-true x n e)
      go false e = refl

  pub related_if : {S T : Type 0} (R : S → T → Type 0) (a s : S) (b t : T) → (x < n → R a b) → R s t
      → R (if nat_lt x n then a else s) (if nat_lt x n then b else t)
  related_if R a s b t h r = go (nat_lt x n) refl
    where
      go : (c : Bool) → nat_lt x n ≡ c → R (if c then a else s) (if c then b else t)
      go true e = h (ltb-true x n e)
      go false e = r

  pub alike_if : {S T : Type 0} (R : S → T → Type 0) (a : Result S Trap) (b : Result T Trap)
      → (x < n → AlikeResults R a b)
      → AlikeResults R (if nat_lt x n then a else Err Range) (if nat_lt x n then b else Err Range)
  alike_if R a b h = go (nat_lt x n) refl
    where
      go : (c : Bool) → nat_lt x n ≡ c → AlikeResults R (if c then a else Err Range) (if c then b else Err Range)
      go true e = h (ltb-true x n e)
      go false e = refl
