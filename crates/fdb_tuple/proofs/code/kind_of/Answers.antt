use Rattle.std.proofs.Common.{arith, sym, refl}
use Rattle.fdb_tuple.specs.Kinds.{kind_of}
use Rattle.fdb_tuple.proofs.Codes.{negative_kind, positive_kind, no_kind_low, no_kind_high}
use Rattle.fdb_tuple.proofs.code.kind_of.Goals as goal

pub returns-in-12-to-19 : goal.returns-in-12-to-19
returns-in-12-to-19 c = sym (negative_kind c.args.code (omega arith) (omega arith))

pub returns-in-20-to-28 : goal.returns-in-20-to-28
returns-in-20-to-28 c = sym (positive_kind c.args.code (omega arith) (omega arith))

pub returns-in_default : goal.returns-in_default
returns-in_default c = sym (no_kind_low c.args.code (λ e. omega arith) (λ e. omega arith) (λ e. omega arith) (λ e. omega arith) (omega arith))

pub returns-in_default-2 : goal.returns-in_default-2
returns-in_default-2 c = sym (no_kind_high c.args.code (omega arith) (λ e. omega arith) (λ e. omega arith) (λ e. omega arith) (λ e. omega arith))

pub returns-in-0 : goal.returns-in-0
unfolding kind_of
returns-in-0 c = rw c.in-0.is refl

pub returns-in-1 : goal.returns-in-1
unfolding kind_of
returns-in-1 c = rw c.in-1.is refl

pub returns-in-2 : goal.returns-in-2
unfolding kind_of
returns-in-2 c = rw c.in-2.is refl

pub returns-in-5 : goal.returns-in-5
unfolding kind_of
returns-in-5 c = rw c.in-5.is refl

pub returns-in-11 : goal.returns-in-11
unfolding kind_of
returns-in-11 c = rw c.in-11.is refl

pub returns-in-29 : goal.returns-in-29
unfolding kind_of
returns-in-29 c = rw c.in-29.is refl

pub returns-in-38 : goal.returns-in-38
unfolding kind_of
returns-in-38 c = rw c.in-38.is refl

pub returns-in-39 : goal.returns-in-39
unfolding kind_of
returns-in-39 c = rw c.in-39.is refl

pub returns-in-48 : goal.returns-in-48
unfolding kind_of
returns-in-48 c = rw c.in-48.is refl

pub returns-in-51 : goal.returns-in-51
unfolding kind_of
returns-in-51 c = rw c.in-51.is refl
