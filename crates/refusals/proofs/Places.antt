-- The number, the place and the cause of a refusal follow from its reason: a number takes at least one byte, so the
-- place of one that stands in the file is a byte of it.
use native.Mathlib.Omega.{arith}
use Rattle.numbers.proofs.Laws.{width_least}
use Rattle.files.specs.Reading.{count, field}
use Rattle.refusals.specs.Why.{too_long, early, not_a_number, other_version, bad_field, surplus, WhyListed, WhyNamed}

pub listed : WhyListed
listed version file q (too_long long) = omega arith
listed version file q (early at n inside small begun short longer) = omega arith
listed version file q (not_a_number place end some ends no_number none) = omega arith
listed version file q (other_version n ends stood other none) = omega (arith, width_least n)
listed version file q (bad_field count place n ends stood none) = omega (arith, width_least n)
listed version file q (bad_field field place n ends stood none) = omega (arith, width_least n)
listed version file q (surplus place p ends says) = omega arith

pub named : WhyNamed
named version file q (too_long long) number e = cc
named version file q (early at n inside small begun short longer) number e = cc
named version file q (not_a_number place end some ends no_number none) number e = cc
named version file q (other_version n ends stood other none) number e = cc
named version file q (bad_field count place n ends stood none) number e = cc
named version file q (bad_field field place n ends stood none) number e = cc
named version file q (surplus place p ends says) number e = cc
