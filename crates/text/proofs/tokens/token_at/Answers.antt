-- What is left of `token_at`.
use Rattle.std.proofs.Common.{of_calls, rules, sym, arith, ◌≡◌, get_or, true, false}
use Rattle.text.specs.definitions.Bytes.{is_name_byte, is_digit, is_comment_byte}
use Rattle.text.proofs.steps.RunSteps.{run_ends}
use Rattle.text.proofs.steps.StepLaws.{name_at, number_at, digits_at, comment_at}
use Rattle.text.proofs.tokens.token_at.Goals as goal

pub returns-in-Letter : goal.returns-in-Letter
returns-in-Letter c =
    let e = run_ends is_name_byte c.run_end.ensures
    (λ i l p. let f : true ≡ is_name_byte (get_or c.args.text.now i 0) = search of_calls in sym f)
    (λ i l p. let f : false ≡ is_name_byte (get_or c.args.text.now i 0) = search of_calls in sym f) in
    name_at _ _ (omega arith) (search rules) (sym c.in-Letter.ensures) _ e.0 _ c.name_at.ensures

pub number_at-requires-clause-text_value : goal.number_at-requires-clause-text_value
number_at-requires-clause-text_value c =
    let e = run_ends is_digit c.run_end-in-Digit.ensures
    (λ i l p. let f : true ≡ is_digit (get_or c.args.text.now i 0) = search of_calls in sym f)
    (λ i l p. let f : false ≡ is_digit (get_or c.args.text.now i 0) = search of_calls in sym f) in
    digits_at _ _ (omega arith) (search rules) (sym c.in-Digit.ensures) _ e.0

pub returns-in-Digit : goal.returns-in-Digit
returns-in-Digit c =
    let e = run_ends is_digit c.run_end-in-Digit.ensures
    (λ i l p. let f : true ≡ is_digit (get_or c.args.text.now i 0) = search of_calls in sym f)
    (λ i l p. let f : false ≡ is_digit (get_or c.args.text.now i 0) = search of_calls in sym f) in
    number_at _ _ (omega arith) (search rules) (sym c.in-Digit.ensures) _ e.0 _ c.number_at.ensures

pub returns-in-Hash : goal.returns-in-Hash
returns-in-Hash c =
    let e = run_ends is_comment_byte c.run_end-in-Hash.ensures
    (λ i l p. let f : true ≡ is_comment_byte (get_or c.args.text.now i 0) = search of_calls in sym f)
    (λ i l p. let f : false ≡ is_comment_byte (get_or c.args.text.now i 0) = search of_calls in sym f) in
    comment_at _ _ (omega arith) (search rules) (sym c.in-Hash.ensures) _ e.0
