use Rattle.std.proofs.Common.{inr, refl, rules, string_bytes}
use Rattle.file_aids.proofs.sign.run_sign.Goals as goal

pub returns-in-Ok-write_whole : goal.returns-in-Ok-write_whole
returns-in-Ok-write_whole g c =
    let report = c.in-Ok-sign_report.report in
    let exact = rw c.deref.ensures.value at c.in-Ok-sign_report.ensures.exact in
    let told = rw c.deref.ensures.value at c.in-Ok-sign_report.ensures.told in
    let wrote = rw c.as_bytes.ensures.value at c.in-Ok-write_whole.ensures.written in
    record {
      told = (
        c.in-Ok.octets.items,
        string_bytes report.text,
        report.found.warnings.items,
        c.in-Ok.ensures.read,
        c.in-Ok.ensures.end,
        c.in-Ok.ensures.most,
        record { found = report.found; exact = exact; told = told; warned = refl },
        search rules,
        search rules,
        wrote,
      );
    }

pub returns : goal.returns
returns g c =
    let report = c.in-Ok-sign_report.report in
    let exact = rw c.deref.ensures.value at c.in-Ok-sign_report.ensures.exact in
    let told = rw c.deref.ensures.value at c.in-Ok-sign_report.ensures.told in
    let wrote = rw c.as_bytes.ensures.value at c.in-Err-write_whole.ensures.written in
    record {
      told = inr (
        wrote.0,
        (
          c.in-Ok.octets.items,
          wrote.1,
          wrote.2,
          report.found.warnings.items,
          c.in-Ok.ensures.read,
          c.in-Ok.ensures.end,
          rw wrote.4 (record { found = report.found; exact = exact; told = told; warned = refl }),
          wrote.3,
        ),
      );
    }
