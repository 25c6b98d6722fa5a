-- The numbers of the 28 actions, in the order of Tables 9-6 to 9-9 of PS3.8 2017e; 0 is a blank cell.
use Rattle.std.specs.Prelude.{ℕ}

abbrev pub ···· : ℕ
···· = 0

abbrev pub AE-1 : ℕ
AE-1 = 1

abbrev pub AE-2 : ℕ
AE-2 = 2

abbrev pub AE-3 : ℕ
AE-3 = 3

abbrev pub AE-4 : ℕ
AE-4 = 4

abbrev pub AE-5 : ℕ
AE-5 = 5

abbrev pub AE-6 : ℕ
AE-6 = 6

abbrev pub AE-7 : ℕ
AE-7 = 7

abbrev pub AE-8 : ℕ
AE-8 = 8

abbrev pub DT-1 : ℕ
DT-1 = 9

abbrev pub DT-2 : ℕ
DT-2 = 10

abbrev pub AR-1 : ℕ
AR-1 = 11

abbrev pub AR-2 : ℕ
AR-2 = 12

abbrev pub AR-3 : ℕ
AR-3 = 13

abbrev pub AR-4 : ℕ
AR-4 = 14

abbrev pub AR-5 : ℕ
AR-5 = 15

abbrev pub AR-6 : ℕ
AR-6 = 16

abbrev pub AR-7 : ℕ
AR-7 = 17

abbrev pub AR-8 : ℕ
AR-8 = 18

abbrev pub AR-9 : ℕ
AR-9 = 19

abbrev pub AR-10 : ℕ
AR-10 = 20

abbrev pub AA-1 : ℕ
AA-1 = 21

abbrev pub AA-2 : ℕ
AA-2 = 22

abbrev pub AA-3 : ℕ
AA-3 = 23

abbrev pub AA-4 : ℕ
AA-4 = 24

abbrev pub AA-5 : ℕ
AA-5 = 25

abbrev pub AA-6 : ℕ
AA-6 = 26

abbrev pub AA-7 : ℕ
AA-7 = 27

abbrev pub AA-8 : ℕ
AA-8 = 28
