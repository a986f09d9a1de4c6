mod MarkedPlaces
