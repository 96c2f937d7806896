mod ArgumentUnits
