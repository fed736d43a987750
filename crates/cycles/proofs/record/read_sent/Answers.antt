-- What is left of `read_sent`.
use Rattle.cycles.proofs.laws.FieldLaws.{contains_has, mark_found, mark_nowhere}
use Rattle.cycles.proofs.laws.RecordLaws.{no_sender, record_feeds, record_too_long, sender_alone, sent_no_number, sent_number, no_number}
use Rattle.std.proofs.Common.{rules, sym, ◌∙◌}
use Rattle.cycles.proofs.record.read_sent.Goals as goal

pub returns-then-values-gt-MOST_RECORD_BYTES : goal.returns-then-values-gt-MOST_RECORD_BYTES
returns-then-values-gt-MOST_RECORD_BYTES c = record_too_long _ _ c.if-values-gt-MOST_RECORD_BYTES.true

pub returns-then-contains : goal.returns-then-contains
returns-then-contains c =
    record_feeds _ _ c.if-values-gt-MOST_RECORD_BYTES.false (sym (contains_has 10 c.args.values.now) ∙ sym c.contains.ensures.value ∙ c.if-contains.true)

pub returns-in_err-size : goal.returns-in_err-size
returns-in_err-size c =
    let one = sym (contains_has 10 c.args.values.now) ∙ sym c.contains.ensures.value ∙ c.if-contains.false in
    rw c.from_residual.ensures (sender_alone _ _ c.if-values-gt-MOST_RECORD_BYTES.false one (mark_nowhere 32 c.args.values.now c.first_mark.ensures (search rules)))

pub returns-then-size-eq0 : goal.returns-then-size-eq0
returns-then-size-eq0 c =
    let one = sym (contains_has 10 c.args.values.now) ∙ sym c.contains.ensures.value ∙ c.if-contains.false in
    no_sender _ _ c.if-values-gt-MOST_RECORD_BYTES.false one (mark_found 32 c.args.values.now c.first_mark.ensures {i = c.in_ok-size.size} (search rules)) c.if-size-eq0.true

pub returns-in_err-digits : goal.returns-in_err-digits
returns-in_err-digits c =
    let one = sym (contains_has 10 c.args.values.now) ∙ sym c.contains.ensures.value ∙ c.if-contains.false in
    let end = mark_found 32 c.args.values.now c.first_mark.ensures {i = c.in_ok-size.size} (search rules) in
    rw c.from_residual-in_err-digits.ensures (no_number _ _ c.if-values-gt-MOST_RECORD_BYTES.false one end c.if-size-eq0.false c.first_size.ensures.size (search rules))

pub returns-in_err-number : goal.returns-in_err-number
returns-in_err-number c =
    let one = sym (contains_has 10 c.args.values.now) ∙ sym c.contains.ensures.value ∙ c.if-contains.false in
    let end = mark_found 32 c.args.values.now c.first_mark.ensures {i = c.in_ok-size.size} (search rules) in
    rw c.from_residual-in_err-number.ensures
    (sent_no_number _ _ c.if-values-gt-MOST_RECORD_BYTES.false one end c.if-size-eq0.false c.first_size.ensures.size {digits = c.in_ok-digits.digits} (search rules)
    c.magnitude.ensures (search rules))

pub returns : goal.returns
returns c =
    let one = sym (contains_has 10 c.args.values.now) ∙ sym c.contains.ensures.value ∙ c.if-contains.false in
    let end = mark_found 32 c.args.values.now c.first_mark.ensures {i = c.in_ok-size.size} (search rules) in
    sent_number _ _ c.if-values-gt-MOST_RECORD_BYTES.false one end c.if-size-eq0.false c.first_size.ensures.size {digits = c.in_ok-digits.digits} (search rules) c.magnitude.ensures
    (search rules)
