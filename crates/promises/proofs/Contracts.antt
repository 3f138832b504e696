-- What each public call leaves is what the row of calls goes on with.
-- Assumes nothing.
use Prim.Native.Nat.{ℕ}
use Rattle.calls.specs.declared.What.{What}
use Rattle.calls.specs.declared.What.TheVariants.{Nothing, Hear, Plan, Own, Choose, Report, New, Sum}
use Rattle.promises.specs.Calls.{after_call}
use Rattle.promises.specs.ByTheContracts.{LeadsOn, ByTheCode}

leads-on : (n : ℕ) (q : What) → LeadsOn n q
unfolding after_call
leads-on n q s bytes r reg book e = λ i. record { reg = e.leaves i; book = e.writes i; watch = (e.answers i).watch }

pub by-the-code : ByTheCode
by-the-code =
    record {
      begin = leads-on 0 New;
      pass-one = leads-on 1 Nothing;
      pass = λ n. leads-on n Nothing;
      hear = leads-on 0 Hear;
      plan = λ q. leads-on 0 (Plan q);
      own = λ s. leads-on 0 (Own s);
      choose = λ a. leads-on 0 (Choose a);
      report = λ t. leads-on 0 (Report t);
      sum = leads-on 0 Sum;
      call = leads-on;
    }
