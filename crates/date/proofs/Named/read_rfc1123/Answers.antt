-- `date::Named::read_rfc1123` meets its contract.
use Rattle.date.proofs.Scan.{rfc1123-end}
use Rattle.date.proofs.Named.read_rfc1123.Goals as goal

pub read_tail-requires : goal.read_tail-requires
read_tail-requires c =
    let x = c.args.self in
    rfc1123-end x.present_year x.text.now x.day c.requires _ c.fitting_at-fits.ensures c.if-fits-lt5.false
