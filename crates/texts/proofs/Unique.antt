-- Each contract is an equation.
-- Assumes nothing.
use Rattle.laws.proofs.Unique.{by-equation}
use Rattle.texts.specs.Unique.{OneTakeChar, OneIsContent, OneTakeContent}

pub one-take-char : OneTakeChar
one-take-char s = by-equation _

pub one-is-content : OneIsContent
one-is-content text s = by-equation _

pub one-take-content : OneTakeContent
one-take-content text s = by-equation _
