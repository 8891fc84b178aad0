-- From the answer on an input to the answer of a call.
use Rattle.std.proofs.Common.{◌≡◌, Result, Ok, Err, subst}
use Rattle.std.specs.Prelude.{IfOk}
use Rattle.rt_value.specs.declared.no_memory.NoMemory.{NoMemory}
use Rattle.rt_input.specs.declared.outcome.Outcome.{Outcome}
use Rattle.rt_input.specs.Accepted.{Accepted}
use Rattle.rt_input.specs.Reading.{Call, IsRead}
use Rattle.rt_input.specs.Source.{Text}
use Rattle.rt_row.specs.declared.outcome.RowAnswer.{RowAnswer}
use Rattle.rt_row.specs.RowVerdicts.{IsRowAnswer, Judges}
use Rattle.rt_row.specs.Said.{row_text}

pub answered : (c : Call) (text : Text) (input : Accepted) (r : Result RowAnswer NoMemory) (s : Result RowAnswer Outcome) → IsRead c input
    → IfOk r (λ a. Judges input text a.verdict × (a.text ≡ row_text input a.verdict)) → IfOk s (λ a. r ≡ Ok a) → IfOk s (IsRowAnswer c text)
answered c text input r (Err o) read says same = tt
answered c text input r (Ok a) read says same =
    let h = subst (λ (q : Result RowAnswer NoMemory). IfOk q (λ a. Judges input text a.verdict × (a.text ≡ row_text input a.verdict))) same says in
    record { input = input; read = read; judges = h.0; said = h.1 }
