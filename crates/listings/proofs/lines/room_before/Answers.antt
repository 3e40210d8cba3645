use Rattle.listings.proofs.{Prelude.{arith}, LinesWritten.{five_digits, four_digits, one_digit, room_is, three_digits, two_digits}}
use Rattle.listings.proofs.lines.room_before.Goals as goal

pub returns-then-number-lt10 : goal.returns-then-number-lt10
returns-then-number-lt10 c =
    room_is c.args.number 4 (let e = one_digit c.args.number c.if-number-lt10.true in omega (arith, e))

pub returns-then-number-lt100 : goal.returns-then-number-lt100
returns-then-number-lt100 c =
    room_is c.args.number 3
    (let e = two_digits c.args.number c.if-number-lt10.false c.if-number-lt100.true in omega (arith, e))

pub returns-then-number-lt1000 : goal.returns-then-number-lt1000
returns-then-number-lt1000 c =
    room_is c.args.number 2
    (let e = three_digits c.args.number c.if-number-lt100.false c.if-number-lt1000.true in omega (arith, e))

pub returns-then-number-lt10000 : goal.returns-then-number-lt10000
returns-then-number-lt10000 c =
    room_is c.args.number 1
    (let e = four_digits c.args.number c.if-number-lt1000.false c.if-number-lt10000.true in omega (arith, e))

pub returns-else-number-lt10000 : goal.returns-else-number-lt10000
returns-else-number-lt10000 c =
    room_is c.args.number 0
    (let e = five_digits c.args.number c.if-number-lt10000.false c.ranges.number.fits in omega (arith, e))
